-- What a type of a table is, and what it is made of.
use Rattle.std.specs.Prelude.{◌≡◌, ℕ, ◌+◌, ◌<◌, ◌≤◌, max, List}
use Rattle.lfpl.specs.Syntax.{Ty, int, diamond, list_of, tree_of, pair_of, sum_of}
use Rattle.lfpl.specs.Typing.{type_at}
use Rattle.tables.specs.Listed.{Types, entry_of}
use Rattle.store.specs.declared.entries.Kind.{Kind}
use Rattle.store.specs.declared.entries.Shape as S
use Rattle.store.specs.declared.entries.Shape.TheVariants as Shape

-- A is the type that the kind is
pub record Is (k : Kind) (A : Ty) : Type 0 where
  pub types : List Ty
  pub listed : Types k.entries.now types
  pub type : A ≡ type_at types k.number

-- the width that its entry notes
abbrev pub wide : Kind → ℕ
wide k = (entry_of k.entries.now k.number).width

-- The kind has that shape: whatever type it is, it is made of the types that the kinds in the shape are, which come earlier; and its width is made of theirs.
abbrev pub Shaped : Kind → S.Shape → Type 0
Shaped k Shape.Number = (wide k ≡ 1) × ((A : Ty) → Is k A → A ≡ int)
Shaped k Shape.Diamond = (wide k ≡ 1) × ((A : Ty) → Is k A → A ≡ diamond)
Shaped k (Shape.List a) = (a.number < k.number) × (wide k ≡ 1) × (wide a ≤ 15) × ((A : Ty) → Is k A → (B : Ty) × Is a B × (A ≡ list_of B))
Shaped k (Shape.Tree a) = (a.number < k.number) × (wide k ≡ 3 + wide a) × ((A : Ty) → Is k A → (B : Ty) × Is a B × (A ≡ tree_of B))
Shaped k (Shape.Pair a b) =
    (a.number < k.number) × (b.number < k.number) × (wide k ≡ wide a + wide b)
    × ((A : Ty) → Is k A → (B : Ty) × (C : Ty) × Is a B × Is b C × (A ≡ pair_of B C))
Shaped k (Shape.Sum a b) =
    (a.number < k.number) × (b.number < k.number) × (wide k ≡ 1 + max (wide a) (wide b))
    × ((A : Ty) → Is k A → (B : Ty) × (C : Ty) × Is a B × Is b C × (A ≡ sum_of B C))
