-- What a pile holds: entries in the first of its slots, the top one last.
use Rattle.std.specs.Prelude.{◌≡◌, ℕ, List, [], ◌∷◌, reverse, length, take, Some, None, Option}
use Rattle.codec.specs.declared.pile.Pile.{Pile}

-- the entries that stand in the first `len` slots, the last one first
abbrev pub top_first : {X : Type 0} → List X → ℕ → List X
top_first slots len = reverse (take len slots)

-- what a pile holds, its top first
abbrev pub held : {X : Type 0} → Pile X → List X
held p = top_first p.slots.now p.len

-- how many entries it has room for
abbrev pub room : {X : Type 0} → Pile X → ℕ
room p = length p.slots.now

-- what a pop answers and leaves: none of an empty pile, else the top entry and the others
abbrev pub Popped : {X : Type 0} → List X → Option X → List X → Type 0
Popped before None after = (before ≡ []) × (after ≡ [])
Popped before (Some x) after = before ≡ x ∷ after
