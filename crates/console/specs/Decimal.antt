-- Numbers as a script writes them: decimal figures.
use Rattle.std.specs.Prelude.{ℕ, ◌+◌, ◌-◌, ◌*◌, ◌^◌, Bool, cond, ◌&&◌, List, [], ◌∷◌, Some, None, Option, nat_le, nat_lt}

-- a character from 0 to 9
abbrev pub is_figure : ℕ → Bool
is_figure c = nat_le 48 c && nat_le c 57

-- n with one figure more behind it; none where the character is no figure, or 32 bits do not hold the number
abbrev pub with_figure : ℕ → ℕ → Option ℕ
with_figure n c = cond (is_figure c && nat_lt (10 * n + (c - 48)) (2 ^ 32)) (Some (10 * n + (c - 48))) None

abbrev pub go_on : Option ℕ → (ℕ → Option ℕ) → Option ℕ
go_on (Some n) f = f n
go_on None f = None

-- n with figures behind it
abbrev pub with_figures : ℕ → List ℕ → Option ℕ
with_figures n [] = Some n
with_figures n (c ∷ cs) = go_on (with_figure n c) (λ m. with_figures m cs)

-- the number that characters spell, at least one
abbrev pub number_of : List ℕ → Option ℕ
number_of [] = None
number_of (c ∷ cs) = with_figures 0 (c ∷ cs)
