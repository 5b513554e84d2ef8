-- A pool without cells.
use Rattle.std.specs.Prelude.{◌≡◌, ℕ, zero, suc, min, cond, replicate, is_some, None, count_by, refl}
use Rattle.std.proofs.Common.{arith}
use Rattle.std.specs.List.{AllByRecursion}
use Rattle.std.proofs.lemmas.List.{length-replicate}
use Rattle.std.proofs.lemmas.List.Sums.{sum_by-cons}
use Rattle.pool.specs.Pools.{Cell, Meaning, Sixteen, Lawful}

-- numbers up to n, at most 65,535, and no cell taken or free
abbrev pub hollow : ℕ → Meaning
hollow n = record { cells = replicate (min n 65535) None; free = 0 }

-- no cell is taken
none_taken : (n : ℕ) → count_by is_some (replicate {A = Cell} n None) ≡ 0
none_taken zero = refl
none_taken (suc n) = omega (arith, none_taken n, sum_by-cons (λ x. cond (is_some x) 1 0) None (replicate {A = Cell} n None))

-- none has too few words
all_sixteen : (n : ℕ) → AllByRecursion Sixteen (replicate n None)
all_sixteen zero = tt
all_sixteen (suc n) = (tt, all_sixteen n)

-- it is a pool
pub lawful_hollow : (n : ℕ) → Lawful (hollow n)
lawful_hollow n = record {
  few = omega (arith, none_taken (min n 65535));
  bounded = omega (arith, length-replicate {A = Cell} (min n 65535) None);
  wide = all_sixteen (min n 65535);
}
