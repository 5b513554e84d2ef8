-- Integers as numbers.
use Rattle.std.specs.Prelude.{ℕ, ◌+◌, ◌*◌, ◌/◌, ◌%◌, cond, ℤ, pos, negsuc, ◌==◌}

-- An integer n is written as the number 2n, or as -2n - 1 where it is below 0. (negsuc n is -n - 1.)
abbrev pub zigzag : ℤ → ℕ
zigzag (pos n) = 2 * n
zigzag (negsuc n) = 2 * n + 1

-- the integer that a number stands for
abbrev pub unzigzag : ℕ → ℤ
unzigzag c = cond (c % 2 == 0) (pos (c / 2)) (negsuc (c / 2))
