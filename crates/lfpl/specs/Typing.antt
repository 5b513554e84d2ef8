-- One rule for each kind of expression: what its parts must be, what its arms bind, and what the whole is.
use Rattle.std.specs.Prelude.{ℕ, Bool, true, false, ◌&&◌, List, [], ◌∷◌, length, nat_lt, slice_index_or}
use Rattle.lfpl.specs.Syntax.{Ty, int, diamond, list_of, tree_of, pair_of, sum_of, first, second, same_ty, Head, var, call, const, apply, guard, mk_pair, case_pair, mk_left, mk_right, case_sum, mk_nil, mk_cons, case_list, mk_leaf, mk_node, case_tree, expr, end, Fun}

abbrev pub same_tys : List Ty → List Ty → Bool
same_tys [] [] = true
same_tys [] (B ∷ Bs) = false
same_tys (A ∷ As) [] = false
same_tys (A ∷ As) (B ∷ Bs) = same_ty A B && same_tys As Bs

abbrev pub is_pair : Ty → Bool
is_pair A = same_ty A (pair_of (first A) (second A))

abbrev pub is_sum : Ty → Bool
is_sum A = same_ty A (sum_of (first A) (second A))

abbrev pub is_list : Ty → Bool
is_list A = same_ty A (list_of (first A))

abbrev pub is_tree : Ty → Bool
is_tree A = same_ty A (tree_of (first A))

-- the type at a place; N past the end
abbrev pub type_at : List Ty → ℕ → Ty
type_at As i = slice_index_or As i int

-- the function at a number; past the end one whose body has no type
abbrev pub fun_at : List Fun → ℕ → Fun
fun_at fs f = slice_index_or fs f (record { params = []; result = int; body = expr guard end end })

-- what the arms of a choice by a value of the type bind: a number chooses between two arms that bind nothing
abbrev pub opened : Ty → List (List Ty)
opened int = [] ∷ [] ∷ []
opened diamond = []
opened (list_of A) = [] ∷ (diamond ∷ A ∷ list_of A ∷ []) ∷ []
opened (tree_of A) = (A ∷ []) ∷ (diamond ∷ diamond ∷ A ∷ tree_of A ∷ tree_of A ∷ []) ∷ []
opened (pair_of A B) = (A ∷ B ∷ []) ∷ []
opened (sum_of A B) = (A ∷ []) ∷ (B ∷ []) ∷ []

-- a rule: a test, the types that the parts must have, what each arm binds, and the type of the whole by that of the arms
pub record Rule : Type 0 where
  pub test : Bool
  pub wants : List Ty
  pub arms : List (List Ty)
  pub whole : Ty → Ty

-- an expression without arms, of the type A
abbrev pub builds : Bool → List Ty → Ty → Rule
builds t l A = record { test = t; wants = l; arms = []; whole = λ B. A }

-- a choice by a value of the type A
abbrev pub chooses : Bool → Ty → Rule
chooses t A = record { test = t; wants = A ∷ []; arms = opened A; whole = λ B. B }

-- the rule of a head, by the types of the variables in scope and of the parts
abbrev pub rule : List Fun → List Ty → Head → List Ty → Rule
rule fs Γ (var i) As = builds (nat_lt i (length Γ)) [] (type_at Γ i)
rule fs Γ (call f) As = builds (nat_lt f (length fs)) (fun_at fs f).params (fun_at fs f).result
rule fs Γ (const z) As = builds true [] int
rule fs Γ (apply o) As = builds true (int ∷ int ∷ []) int
rule fs Γ guard As = chooses true int
rule fs Γ (mk_pair A) As = builds (is_pair A) (first A ∷ second A ∷ []) A
rule fs Γ case_pair As = chooses (is_pair (type_at As 0)) (type_at As 0)
rule fs Γ (mk_left A) As = builds (is_sum A) (first A ∷ []) A
rule fs Γ (mk_right A) As = builds (is_sum A) (second A ∷ []) A
rule fs Γ case_sum As = chooses (is_sum (type_at As 0)) (type_at As 0)
rule fs Γ (mk_nil A) As = builds (is_list A) [] A
rule fs Γ mk_cons As = let T = type_at As 2 in builds (is_list T) (diamond ∷ first T ∷ T ∷ []) T
rule fs Γ case_list As = chooses (is_list (type_at As 0)) (type_at As 0)
rule fs Γ (mk_leaf A) As = builds (is_tree A) (first A ∷ []) A
rule fs Γ mk_node As = let T = type_at As 3 in builds (is_tree T) (diamond ∷ diamond ∷ first T ∷ T ∷ T ∷ []) T
rule fs Γ case_tree As = chooses (is_tree (type_at As 0)) (type_at As 0)

-- the parts' types are what the rule wants
abbrev pub fits : Rule → List Ty → Bool
fits r As = r.test && same_tys As r.wants

-- a choice by the kind of its first part, which is tested before the arms are judged
abbrev pub early : Head → Bool
early (var i) = false
early (call f) = false
early (const z) = false
early (apply o) = false
early guard = false
early (mk_pair A) = false
early case_pair = true
early (mk_left A) = false
early (mk_right A) = false
early case_sum = true
early (mk_nil A) = false
early mk_cons = false
early case_list = true
early (mk_leaf A) = false
early mk_node = false
early case_tree = true

-- all of the types are A
abbrev pub alike : Ty → List Ty → Bool
alike A [] = true
alike A (B ∷ Bs) = same_ty A B && alike A Bs
