-- Which values a type has, by their outermost constructor.
use Rattle.std.proofs.Common.{◌≡◌, ℕ, ◌⊎◌, ℤ, refl, inl, inr, arith}
use Rattle.lfpl.specs.Syntax.{Ty, int, diamond, list_of, tree_of, pair_of, sum_of, first, second}
use Rattle.lfpl.specs.Values.{Val, num, dia, nil, cons, leaf, node, pair, left, right}

pub never : {P : Type 0} → ◌≡◌ {A = ℕ} 0 1 → P
never z = absurd (omega arith)

-- the outermost constructor of the value is one of the type A
abbrev pub Top : Ty → Val → Type 0
Top A (num z) = A ≡ int
Top A dia = A ≡ diamond
Top A nil = A ≡ list_of (first A)
Top A (cons a b) = A ≡ list_of (first A)
Top A (leaf a) = A ≡ tree_of (first A)
Top A (node a l r) = A ≡ tree_of (first A)
Top A (pair a b) = A ≡ pair_of (first A) (second A)
Top A (left a) = A ≡ sum_of (first A) (second A)
Top A (right a) = A ≡ sum_of (first A) (second A)

pub top_int : (v : Val) → Top int v → (z : ℤ) × (v ≡ num z)
top_int (num z) e = (z, refl)
top_int dia e = never (cc)
top_int nil e = never (cc)
top_int (cons a b) e = never (cc)
top_int (leaf a) e = never (cc)
top_int (node a l r) e = never (cc)
top_int (pair a b) e = never (cc)
top_int (left a) e = never (cc)
top_int (right a) e = never (cc)

pub top_dia : (v : Val) → Top diamond v → v ≡ dia
top_dia (num z) e = never (cc)
top_dia dia e = refl
top_dia nil e = never (cc)
top_dia (cons a b) e = never (cc)
top_dia (leaf a) e = never (cc)
top_dia (node a l r) e = never (cc)
top_dia (pair a b) e = never (cc)
top_dia (left a) e = never (cc)
top_dia (right a) e = never (cc)

pub top_list : (A : Ty) (v : Val) → Top (list_of A) v → (v ≡ nil) ⊎ ((a : Val) × (b : Val) × (v ≡ cons a b))
top_list A (num z) e = never (cc)
top_list A dia e = never (cc)
top_list A nil e = inl refl
top_list A (cons a b) e = inr (a, b, refl)
top_list A (leaf a) e = never (cc)
top_list A (node a l r) e = never (cc)
top_list A (pair a b) e = never (cc)
top_list A (left a) e = never (cc)
top_list A (right a) e = never (cc)

pub top_tree : (A : Ty) (v : Val) → Top (tree_of A) v → ((a : Val) × (v ≡ leaf a)) ⊎ ((a : Val) × (l : Val) × (r : Val) × (v ≡ node a l r))
top_tree A (num z) e = never (cc)
top_tree A dia e = never (cc)
top_tree A nil e = never (cc)
top_tree A (cons a b) e = never (cc)
top_tree A (leaf a) e = inl (a, refl)
top_tree A (node a l r) e = inr (a, l, r, refl)
top_tree A (pair a b) e = never (cc)
top_tree A (left a) e = never (cc)
top_tree A (right a) e = never (cc)

pub top_pair : (A B : Ty) (v : Val) → Top (pair_of A B) v → (a : Val) × (b : Val) × (v ≡ pair a b)
top_pair A B (num z) e = never (cc)
top_pair A B dia e = never (cc)
top_pair A B nil e = never (cc)
top_pair A B (cons a b) e = never (cc)
top_pair A B (leaf a) e = never (cc)
top_pair A B (node a l r) e = never (cc)
top_pair A B (pair a b) e = (a, b, refl)
top_pair A B (left a) e = never (cc)
top_pair A B (right a) e = never (cc)

pub top_sum : (A B : Ty) (v : Val) → Top (sum_of A B) v → ((a : Val) × (v ≡ left a)) ⊎ ((a : Val) × (v ≡ right a))
top_sum A B (num z) e = never (cc)
top_sum A B dia e = never (cc)
top_sum A B nil e = never (cc)
top_sum A B (cons a b) e = never (cc)
top_sum A B (leaf a) e = never (cc)
top_sum A B (node a l r) e = never (cc)
top_sum A B (pair a b) e = never (cc)
top_sum A B (left a) e = inl (a, refl)
top_sum A B (right a) e = inr (a, refl)
