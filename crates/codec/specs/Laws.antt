-- What holds of numbers, integers and their bytes.
use Rattle.std.specs.Prelude.{◌≡◌, ℕ, Bool, true, false, ◌&&◌, List, [], ◌∷◌, length, ℤ, pos, negsuc, Some, None, Option, ◌==◌}
use Rattle.codec.specs.Integer.{zigzag}
use Rattle.codec.specs.Number.{Numeral, got, ended, overlong, number, written}
use Rattle.codec.specs.Reading.{done, number_at}

-- where a number was written, reading gives it back, whatever follows, and ends where the writing ended
abbrev pub ReadsBack : ℕ → ℕ → Option ℕ → List ℕ → Type 0
ReadsBack n start (Some end) area = number_at area start ≡ done n end
ReadsBack n start None area = Unit {0}

-- the same bytes
abbrev pub same : List ℕ → List ℕ → Bool
same [] [] = true
same (x ∷ xs) [] = false
same [] (y ∷ ys) = false
same (x ∷ xs) (y ∷ ys) = x == y && same xs ys

-- the number v, in n bytes
abbrev pub exactly : ℕ → ℕ → Numeral → Bool
exactly v n (got w k) = v == w && n == k
exactly v n ended = false
exactly v n overlong = false

-- these bytes are what the integer is written as, and are read as it
abbrev pub agrees : ℤ × List ℕ → Bool
agrees (z, bs) = same (written (zigzag z)) bs && exactly (zigzag z) (length bs) (number bs)

-- worked examples: -1 is one byte, the least integer takes all five, and 300 takes two
abbrev pub examples : List (ℤ × List ℕ)
examples = (negsuc 0, 1 ∷ []) ∷ (negsuc 2147483647, 255 ∷ 255 ∷ 255 ∷ 255 ∷ 15 ∷ []) ∷ (pos 300, 216 ∷ 4 ∷ []) ∷ []

-- each of them agrees
abbrev pub all_agree : List (ℤ × List ℕ) → Bool
all_agree [] = true
all_agree (x ∷ xs) = agrees x && all_agree xs
