-- Variables in scope, and sets of variables as numbers.
use Rattle.std.specs.Prelude.{◌≡◌, ℕ, zero, suc, ◌+◌, ◌/◌, ◌%◌, ◌^◌, ◌<◌, Bool, false, not, List, [], ◌∷◌, map, ◌==◌, bit_and, bit_or}
use Rattle.lfpl.specs.Syntax.{Ty, width, is_heap_free, Head, var, call, const, apply, guard, mk_pair, case_pair, mk_left, mk_right, case_sum, mk_nil, mk_cons, case_list, mk_leaf, mk_node, case_tree, Expr, Exprs, expr, end, ◌then◌}
use Rattle.typing.specs.Codes.{CodedAll}
use Rattle.typing.specs.declared.scope.Scope.{Scope}

-- A set of variables as a number: the variable v is the bit v.
abbrev pub has : ℕ → ℕ → Bool
has m v = m / 2 ^ v % 2 == 1

-- the variable v is among those of the types Γ, and is not heap-free
abbrev pub heavy : List Ty → ℕ → Bool
heavy [] v = false
heavy (A ∷ Γ) zero = not (is_heap_free A)
heavy (A ∷ Γ) (suc v) = heavy Γ v

-- the variables that occur in an expression
abbrev pub head_mask : Head → ℕ
head_mask (var i) = 2 ^ i
head_mask (call f) = 0
head_mask (const z) = 0
head_mask (apply o) = 0
head_mask guard = 0
head_mask (mk_pair A) = 0
head_mask case_pair = 0
head_mask (mk_left A) = 0
head_mask (mk_right A) = 0
head_mask case_sum = 0
head_mask (mk_nil A) = 0
head_mask mk_cons = 0
head_mask case_list = 0
head_mask (mk_leaf A) = 0
head_mask mk_node = 0
head_mask case_tree = 0

abbrev mutual
  pub mask : Expr → ℕ
  mask (expr h ps qs) = bit_or (head_mask h) (bit_or (masks ps) (masks qs))

  pub masks : Exprs → ℕ
  masks end = 0
  masks (e then es) = bit_or (mask e) (masks es)

-- the variables that occur in two or more of the expressions
abbrev pub twice : Exprs → ℕ
twice end = 0
twice (e then es) = bit_or (bit_and (mask e) (masks es)) (twice es)

-- how many words values of the types have together
abbrev pub widths : List Ty → ℕ
widths [] = 0
widths (A ∷ As) = width A + widths As

-- where the words of each begin, one after another from a place on
abbrev pub offsets : ℕ → List Ty → List ℕ
offsets over [] = []
offsets over (A ∷ As) = over ∷ offsets (over + width A) As

-- The scope has variables of the types Γ, by their codes, at the places ps, and marks those that are not heap-free.
pub record Scopes (ts : List Ty) (s : Scope) (Γ : List Ty) (ps : List ℕ) : Type 0 where
  pub codes : CodedAll ts (map (λ v. v.code) s.variables.items) Γ
  pub places : map (λ v. v.place) s.variables.items ≡ ps
  pub small : s.heavy < 2 ^ 32
  pub heavy : (v : ℕ) → has s.heavy v ≡ heavy Γ v
