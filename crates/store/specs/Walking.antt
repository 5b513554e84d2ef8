-- What a walk through a value says of it: its bytes and its cells.
use Rattle.std.specs.Prelude.{◌≡◌, ℕ, ◌+◌, ◌-◌, ◌^◌, ◌<◌, ◌≤◌, min, List, ◌∷◌, ◌++◌, length, drop, Option, MatchOption}
use Rattle.std.proofs.lemmas.List.Edits.{sets}
use Rattle.lfpl.specs.Syntax.{Ty}
use Rattle.lfpl.specs.Values.{Val, charge, write}
use Rattle.pool.specs.Pools.{Meaning}
use Rattle.store.specs.Layout.{Shows, footprint, used, words_of}

-- whatever value of at most `cells` cells the words show, P holds of its bytes and of its cells
abbrev pub Walks : Meaning → Ty → List ℕ → ℕ → ℕ → (List ℕ → List ℕ → Type 0) → Type 0
Walks m A ws o cells P = (v : Val) → Shows m A v ws o → charge v ≤ cells → P (write v) (footprint m A v ws o)

-- the same of a value in a cell of its own
abbrev pub WalksCell : Meaning → Ty → ℕ → ℕ → (List ℕ → List ℕ → Type 0) → Type 0
WalksCell m A c cells P =
    (v : Val) → used m c ≡ 1 → Shows m A v (words_of m c) 0 → charge v < cells → P (write v) (c ∷ footprint m A v (words_of m c) 0)

-- the numbers xs stand in the list from `at` on, where there is room for them, and r is the place after them
abbrev pub Placed : List ℕ → ℕ → List ℕ → List ℕ → ℕ → Type 0
Placed out at xs out' r = at + length xs ≤ length out → (out' ≡ sets out at xs) × (r ≡ at + length xs)

-- a count of bytes rises by as many as there are, up to the largest number that it can be
abbrev pub Counted : ℕ → List ℕ → ℕ → Type 0
Counted n xs r = min r (2 ^ 64 - 1) ≡ min (n + length xs) (2 ^ 64 - 1)

-- the bytes come first in the area and the rest is left as it was, and the answer is their count; or the area is too short, and all of it is left as it was
abbrev pub Written : List ℕ → List ℕ → Option ℕ → List ℕ → Type 0
Written xs area r area' =
    MatchOption r ((length area < length xs) × (area' ≡ area)) (λ n. (n ≡ length xs) × (length xs ≤ length area) × (area' ≡ xs ++ drop (length xs) area))
