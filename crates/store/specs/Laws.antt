-- Laws of the layout and of the bytes of values, and worked examples.
use Rattle.std.specs.Prelude.{◌≡◌, ℕ, ◌+◌, ◌-◌, ◌≤◌, Bool, true, false, ◌&&◌, List, [], ◌∷◌, length, pos, negsuc, ◌==◌}
use Rattle.codec.specs.Faults.{number_of}
use Rattle.codec.specs.Laws.{same}
use Rattle.codec.specs.Reading.{Scan, done, refused}
use Rattle.lfpl.specs.Syntax.{Ty, int, diamond, list_of, tree_of, pair_of}
use Rattle.lfpl.specs.Values.{Val, num, dia, nil, cons, leaf, node, pair, charge, In, write}
use Rattle.pool.specs.Pools.{Meaning}
use Rattle.store.specs.Decoding.{decode}
use Rattle.store.specs.Layout.{Shows, footprint}

-- what is shown and put again is the same value: the bytes of a value of the set of A are read back whole, where its cells are spare
abbrev pub ReadsBack : Type 0
ReadsBack = (A : Ty) (v : Val) (s : ℕ) → In A v → charge v ≤ s → decode (write v) A s ≡ done (v, s - charge v) (length (write v))

-- what bytes of the type A spell is in the set of A, and the cells counted are its charge
abbrev pub IsDecoded : Ty → ℕ → Scan (Val × ℕ) → Type 0
IsDecoded A s (done r q) = In A r.0 × (charge r.0 + r.1 ≡ s)
IsDecoded A s (refused why q) = Unit {0}

-- a value holds as many cells as it is charged for
abbrev pub HoldsItsCharge : Type 0
HoldsItsCharge = (m : Meaning) (A : Ty) (v : Val) (ws : List ℕ) (o : ℕ) → length (footprint m A v ws o) ≡ charge v

-- words show one value at most
abbrev pub OneValue : Type 0
OneValue = (m : Meaning) (A : Ty) (v w : Val) (ws : List ℕ) (o : ℕ) → Shows m A v ws o → Shows m A w ws o → v ≡ w

-- what bytes come to: a value and the cells left, or the number of a refusal and its place
pub data Outcome : Type 0 where
  gives : Val → ℕ → Outcome
  refuses : ℕ → ℕ → Outcome

-- an example: a type, bytes, how many cells are spare, and what they come to
pub record Example : Type 0 where
  pub type : Ty
  pub bytes : List ℕ
  pub spare : ℕ
  pub outcome : Outcome

-- The reading comes to that. Values of one type are told apart by their bytes; those that were read are the value's, as they are in their shortest form.
abbrev pub comes_to : List ℕ → Scan (Val × ℕ) → Outcome → Bool
comes_to bs (done r q) (gives v n) = same (write r.0) bs && (same (write v) bs && (charge r.0 == charge v && r.1 == n))
comes_to bs (done r q) (refuses why place) = false
comes_to bs (refused why q) (gives v n) = false
comes_to bs (refused why q) (refuses n place) = number_of why == n && q == place

-- the example's bytes come to what it says
abbrev pub agrees : Example → Bool
agrees e = comes_to e.bytes (decode e.bytes e.type e.spare) e.outcome

-- each of them agrees
abbrev pub all_agree : List Example → Bool
all_agree [] = true
all_agree (e ∷ es) = agrees e && all_agree es

-- an example, as a sentence
infixr 45 ◌reads◌with◌to◌
abbrev pub ◌reads◌with◌to◌ : Ty → List ℕ → ℕ → Outcome → Example
A reads bs with s to o = record { type = A; bytes = bs; spare = s; outcome = o }

-- a node with two leaves, which charges 2
abbrev pub twig : Val
twig = node (num (pos 7)) (leaf (num (pos 1))) (leaf (num (negsuc 0)))

-- its bytes before others
abbrev pub twig_bytes : List ℕ → List ℕ
twig_bytes bs = 1 ∷ 14 ∷ 0 ∷ 2 ∷ 0 ∷ 1 ∷ bs

-- Worked examples: -1, the least number and 300; a node with two leaves, and a list of two such, which charges 6. Where a charge equals the cells that are spare
-- the value is read; with one cell fewer it is refused at the mark, or at the byte after a diamond, whose cells are lacking. A mark of 2, an end before a mark
-- and a byte over are refused where they stand.
abbrev pub examples : List Example
examples =
    (int reads 1 ∷ [] with 0 to gives (num (negsuc 0)) 0)
    ∷ (int reads 255 ∷ 255 ∷ 255 ∷ 255 ∷ 15 ∷ [] with 0 to gives (num (negsuc 2147483647)) 0)
    ∷ (int reads 216 ∷ 4 ∷ [] with 0 to gives (num (pos 300)) 0)
    ∷ (tree_of int reads twig_bytes [] with 2 to gives twig 0)
    ∷ (tree_of int reads twig_bytes [] with 1 to refuses 15 0)
    ∷ (list_of (tree_of int) reads 1 ∷ twig_bytes (1 ∷ twig_bytes (0 ∷ [])) with 6 to gives (cons twig (cons twig nil)) 0)
    ∷ (list_of (tree_of int) reads 1 ∷ twig_bytes (1 ∷ twig_bytes (0 ∷ [])) with 5 to refuses 15 8)
    ∷ (pair_of int diamond reads 2 ∷ [] with 1 to gives (pair (num (pos 1)) dia) 0)
    ∷ (pair_of int diamond reads 2 ∷ [] with 0 to refuses 15 1)
    ∷ (list_of int reads 2 ∷ [] with 9 to refuses 3 0)
    ∷ (list_of int reads 1 ∷ 0 ∷ [] with 9 to refuses 1 2)
    ∷ (int reads 0 ∷ 0 ∷ [] with 0 to refuses 8 1)
    ∷ []
