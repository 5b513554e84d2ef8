-- The language LFPL: types, expressions and programs.
use Rattle.std.specs.Prelude.{ℕ, ◌+◌, max, Bool, true, false, ◌&&◌, ◌||◌, List, ℤ, ◌==◌}

-- Types: integers of 32 bits (N), the diamond (the right to one memory cell), lists, trees with labels, pairs and sums.
pub data Ty : Type 0 where
  int diamond : Ty
  list_of tree_of : Ty → Ty
  pair_of sum_of : Ty → Ty → Ty
  deriving Discrete as Ty-discrete

abbrev pub decided : {P : Type 0} → Dec P → Bool
decided (yes p) = true
decided (no p) = false

abbrev pub same_ty : Ty → Ty → Bool
same_ty A B = decided (Ty-discrete A B)

-- how many words a value of the type has
abbrev pub width : Ty → ℕ
width int = 1
width diamond = 1
width (list_of A) = 1
width (tree_of A) = 3 + width A
width (pair_of A B) = width A + width B
width (sum_of A B) = 1 + max (width A) (width B)

-- the types that a type is made of; N where it is made of none
abbrev pub first : Ty → Ty
first int = int
first diamond = int
first (list_of A) = A
first (tree_of A) = A
first (pair_of A B) = A
first (sum_of A B) = A

abbrev pub second : Ty → Ty
second int = int
second diamond = int
second (list_of A) = int
second (tree_of A) = int
second (pair_of A B) = B
second (sum_of A B) = B

-- no diamond, list or tree occurs in the type: its values hold no cell
abbrev pub is_heap_free : Ty → Bool
is_heap_free int = true
is_heap_free diamond = false
is_heap_free (list_of A) = false
is_heap_free (tree_of A) = false
is_heap_free (pair_of A B) = is_heap_free A && is_heap_free B
is_heap_free (sum_of A B) = is_heap_free A && is_heap_free B

-- the five infix operations
pub data Infix : Type 0 where
  plus minus times equal at_most : Infix

-- What stands at an expression: its kind with its numbers, over variables from X. Each `mk` builds a value, each `case` takes one apart.
pub data HeadOf (X : Type 0) : Type 0 where
  var : X → HeadOf X
  call : ℕ → HeadOf X
  const : ℤ → HeadOf X
  apply : Infix → HeadOf X
  guard : HeadOf X
  mk_pair : Ty → HeadOf X
  case_pair : HeadOf X
  mk_left mk_right : Ty → HeadOf X
  case_sum : HeadOf X
  mk_nil : Ty → HeadOf X
  mk_cons case_list : HeadOf X
  mk_leaf : Ty → HeadOf X
  mk_node case_tree : HeadOf X

-- An expression is a head, its parts, which are all worked out, and its arms, of which one is chosen.
infixr 60 ◌then◌
mutual
  pub data Term (X : Type 0) : Type 0 where
    expr : HeadOf X → Terms X → Terms X → Term X

  pub data Terms (X : Type 0) : Type 0 where
    end : Terms X
    ◌then◌ : Term X → Terms X → Terms X

-- A table numbers its variables: parameters first, then in order of binding.
abbrev pub Head : Type 0
Head = HeadOf ℕ

abbrev pub Expr : Type 0
Expr = Term ℕ

abbrev pub Exprs : Type 0
Exprs = Terms ℕ

-- the same head over other variables
abbrev pub rename_head : {X Y : Type 0} → (X → Y) → HeadOf X → HeadOf Y
rename_head f (var x) = var (f x)
rename_head f (call g) = call g
rename_head f (const z) = const z
rename_head f (apply o) = apply o
rename_head f guard = guard
rename_head f (mk_pair A) = mk_pair A
rename_head f case_pair = case_pair
rename_head f (mk_left A) = mk_left A
rename_head f (mk_right A) = mk_right A
rename_head f case_sum = case_sum
rename_head f (mk_nil A) = mk_nil A
rename_head f mk_cons = mk_cons
rename_head f case_list = case_list
rename_head f (mk_leaf A) = mk_leaf A
rename_head f mk_node = mk_node
rename_head f case_tree = case_tree

abbrev mutual
  pub rename : {X Y : Type 0} → (X → Y) → Term X → Term Y
  rename f (expr h ps qs) = expr (rename_head f h) (renames f ps) (renames f qs)

  pub renames : {X Y : Type 0} → (X → Y) → Terms X → Terms Y
  renames f end = end
  renames f (e then es) = rename f e then renames f es

-- how many expressions an expression has, itself counted
abbrev mutual
  pub size : Expr → ℕ
  size (expr h ps qs) = 1 + (sizes ps + sizes qs)

  pub sizes : Exprs → ℕ
  sizes end = 0
  sizes (e then es) = size e + sizes es

abbrev pub is_var : ℕ → Head → Bool
is_var i (var j) = i == j
is_var i (call f) = false
is_var i (const z) = false
is_var i (apply o) = false
is_var i guard = false
is_var i (mk_pair A) = false
is_var i case_pair = false
is_var i (mk_left A) = false
is_var i (mk_right A) = false
is_var i case_sum = false
is_var i (mk_nil A) = false
is_var i mk_cons = false
is_var i case_list = false
is_var i (mk_leaf A) = false
is_var i mk_node = false
is_var i case_tree = false

-- whether the variable i occurs in an expression
abbrev mutual
  pub names : ℕ → Expr → Bool
  names i (expr h ps qs) = is_var i h || (names_any i ps || names_any i qs)

  pub names_any : ℕ → Exprs → Bool
  names_any i end = false
  names_any i (e then es) = names i e || names_any i es

-- a function: its parameters' types, its result's type, and its body
pub record Fun : Type 0 where
  pub params : List Ty
  pub result : Ty
  pub body : Expr

-- a program: the types that its table lists, by number, and its functions, by number
pub record Program : Type 0 where
  pub types : List Ty
  pub functions : List Fun
