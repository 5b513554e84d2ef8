-- Values: the set that each type stands for, a value's charge in cells, and the bytes that it is written as.
use Rattle.std.specs.Prelude.{◌≡◌, ℕ, ◌+◌, List, [], ◌∷◌, ◌++◌, ℤ, FitsSigned}
use Rattle.std.specs.Int.{w32}
use Rattle.codec.specs.Integer.{zigzag}
use Rattle.codec.specs.Number.{written}
use Rattle.lfpl.specs.Syntax.{Ty, int, diamond, list_of, tree_of, pair_of, sum_of, first, second}

-- A value as mathematics has it: nothing in it says which cells hold it. The diamond has one value. A list is empty or has a first element and a tail; a tree is
-- a leaf with a label, or a node with a label and two subtrees.
pub data Val : Type 0 where
  num : ℤ → Val
  dia nil : Val
  cons : (element tail : Val) → Val
  leaf : (label : Val) → Val
  node : (label left right : Val) → Val
  pair : Val → Val → Val
  left right : Val → Val

-- A value's charge is the count of the cells that hold it: 1 for each diamond, 1 for each element of a list and 2 for each node of a tree, those inside others
-- included.
abbrev pub charge : Val → ℕ
charge (num z) = 0
charge dia = 1
charge nil = 0
charge (cons a b) = 1 + (charge a + charge b)
charge (leaf a) = charge a
charge (node a l r) = 2 + (charge a + (charge l + charge r))
charge (pair a b) = charge a + charge b
charge (left a) = charge a
charge (right a) = charge a

-- The value is in the set of the type A. N's numbers are those that 32 bits hold in two's complement: from -2,147,483,648 to 2,147,483,647.
abbrev pub In : Ty → Val → Type 0
In A (num z) = (A ≡ int) × FitsSigned w32 z
In A dia = A ≡ diamond
In A nil = A ≡ list_of (first A)
In A (cons a b) = (A ≡ list_of (first A)) × In (first A) a × In A b
In A (leaf a) = (A ≡ tree_of (first A)) × In (first A) a
In A (node a l r) = (A ≡ tree_of (first A)) × In (first A) a × In A l × In A r
In A (pair a b) = (A ≡ pair_of (first A) (second A)) × In (first A) a × In (second A) b
In A (left a) = (A ≡ sum_of (first A) (second A)) × In (first A) a
In A (right a) = (A ≡ sum_of (first A) (second A)) × In (second A) a

-- The bytes of a value. A diamond has none. A list is a 1 before each element and a 0 at the end; a leaf is a 0 and its label, a node a 1, its label and its
-- subtrees; a pair is both parts; left is a 0 and right a 1, then the part.
abbrev pub write : Val → List ℕ
write (num z) = written (zigzag z)
write dia = []
write nil = 0 ∷ []
write (cons a b) = 1 ∷ (write a ++ write b)
write (leaf a) = 0 ∷ write a
write (node a l r) = 1 ∷ (write a ++ (write l ++ write r))
write (pair a b) = write a ++ write b
write (left a) = 0 ∷ write a
write (right a) = 1 ∷ write a

-- a value with its type
pub record Typed : Type 0 where
  pub type : Ty
  pub value : Val

-- the value v with the type A
infixl 70 ◌of◌
abbrev pub ◌of◌ : Val → Ty → Typed
v of A = record { type = A; value = v }
