-- Codes of types, which are equal exactly where the types are.
use Rattle.std.specs.Prelude.{◌≡◌, ℕ, ◌<◌, ◌≤◌, List, [], ◌∷◌, map, length, take, slice_index_or}
use Rattle.inline_vec.specs.Vectors.{InlineVec}
use Rattle.lfpl.specs.Syntax.{Ty, int, diamond, list_of, tree_of, pair_of, sum_of, first, second, width, is_heap_free}
use Rattle.lfpl.specs.Typing.{type_at}
use Rattle.tables.specs.Listed.{Below, Types, formed}
use Rattle.tables.specs.declared.listing.Entry.{Entry}
use Rattle.tables.specs.declared.listing.Listing.{Listing}
use Rattle.typing.specs.declared.codes.Code as C
use Rattle.typing.specs.declared.codes.Code.TheVariants as Code
use Rattle.typing.specs.declared.codes.Slot as S
use Rattle.typing.specs.declared.codes.Slot.TheVariants as Slot

-- the listing lists the types ts, by number
pub record Typed (l : Listing) (ts : List Ty) : Type 0 where
  pub few : l.types ≤ 64
  pub types : Types (take l.types l.entries) ts

-- a type that is made of types
abbrev pub Made : Ty → Type 0
Made int = ⊥
Made diamond = ⊥
Made (list_of A) = Unit {0}
Made (tree_of A) = Unit {0}
Made (pair_of A B) = Unit {0}
Made (sum_of A B) = Unit {0}

-- The code stands for the type A, where the entries list the types ts: N and diamond have codes of their own, whether they are listed or not, and any other type
-- that of the number of its entry.
abbrev pub Coded : List Ty → C.Code → Ty → Type 0
Coded ts Code.Number A = A ≡ int
Coded ts Code.Diamond A = A ≡ diamond
Coded ts (Code.Listed i) A = (i < length ts) × (type_at ts i ≡ A) × Made A

-- codes of types, one by one
abbrev pub CodedAll : List Ty → List C.Code → List Ty → Type 0
CodedAll ts [] [] = Unit {0}
CodedAll ts [] (A ∷ As) = ⊥
CodedAll ts (c ∷ cs) [] = ⊥
CodedAll ts (c ∷ cs) (A ∷ As) = Coded ts c A × CodedAll ts cs As

-- the row has the codes of the types As
abbrev pub Encodes : List Ty → InlineVec C.Code → List Ty → Type 0
Encodes ts r As = CodedAll ts r.items As

-- each of the items is told only the code of its type
pub record TellsEach {X : Type 0} (ts : List Ty) (Tells : X → C.Code → Type 0) (type : X → Ty) (xs : List X) : Type 0 where
  pub code : (i : ℕ) (d : X) → i < length xs → (c : C.Code) → Tells (slice_index_or xs i d) c → Coded ts c (type (slice_index_or xs i d))

-- the entry tells what the type A is: its form, with the entries of what it is made of, its width, and whether it is heap-free
pub record Describes (ts : List Ty) (A : Ty) (e : Entry) : Type 0 where
  pub refers : Below (length ts) e.form
  pub type : A ≡ formed ts e.form
  pub width : e.width ≡ width A
  pub free : e.heap_free ≡ is_heap_free A
  pub narrow : e.width ≤ 16

-- the type that a slot asks for, by the type that the rule is about
abbrev pub slot_type : Ty → S.Slot → Ty
slot_type A Slot.Number = int
slot_type A Slot.Diamond = diamond
slot_type A Slot.Whole = A
slot_type A Slot.First = first A
slot_type A Slot.Second = second A

abbrev pub slot_types : Ty → List S.Slot → List Ty
slot_types A s = map (slot_type A) s
