-- How the bytes of a table are read: the program that they spell, or the first refusal with its place.
use Rattle.std.specs.Prelude.{ℕ, zero, suc, ◌+◌, ◌-◌, Bool, true, false, cond, not, ◌&&◌, ◌||◌, List, [], ◌∷◌, map, length, get_or, replicate, nat_le, nat_lt, slice_index, slice_index_or}
use Rattle.codec.specs.Integer.{unzigzag}
use Rattle.codec.specs.Reading.{Scan, done, refused, then as followed, number_at, within_at, many_at}
use Rattle.codec.specs.declared.fault.Refusal.{Refusal}
use Rattle.codec.specs.declared.fault.Refusal.TheVariants.{EntryRepeated, TooWide, TooManyExpressions, TooManyVariables, BytesOver}
use Rattle.lfpl.specs.Syntax.{Ty, int, diamond, list_of, tree_of, pair_of, sum_of, width, same_ty, Infix, plus, minus, times, equal, at_most, Head, var, call, const, apply, guard, mk_pair, case_pair, mk_left, mk_right, case_sum, mk_nil, mk_cons, case_list, mk_leaf, mk_node, case_tree, Expr, Exprs, expr, end, ◌then◌, size, sizes, Fun, Program}
use Rattle.lfpl.specs.Typing.{type_at}

-- A reading of bytes from a place on: what is read and the place after it, or a refusal with its place.
abbrev pub Reader : Type 0 → Type 0
Reader X = List ℕ → ℕ → Scan X

infixl 10 ◌>>=◌
abbrev pub ◌>>=◌ : {X Y : Type 0} → Reader X → (X → Reader Y) → Reader Y
◌>>=◌ r k bs p = followed (r bs p) (λ x q. k x bs q)

abbrev pub pure : {X : Type 0} → X → Reader X
pure x bs p = done x p

infixl 10 ◌>>◌
abbrev pub ◌>>◌ : {X Y : Type 0} → Reader X → Reader Y → Reader Y
◌>>◌ r s bs p = followed (r bs p) (λ x q. s bs q)

-- the place that is read next
abbrev pub here : Reader ℕ
here bs p = done p p

-- goes on where the test passes; else the refusal, at a place
abbrev pub demand : Bool → Refusal → ℕ → Reader (Unit {0})
demand b why place bs p = cond b (done tt p) (refused why place)

-- a number below n
abbrev pub below : ℕ → Reader ℕ
below n = within_at 0 n

-- n readings in a row, each by what stands before it
abbrev pub many : {X : Type 0} → ℕ → (List X → Reader X) → Reader (List X)
many n f bs p = many_at (λ xs q. f xs bs q) n [] p

-- ---- types

abbrev pub member : Ty → List Ty → Bool
member A [] = false
member A (B ∷ Bs) = same_ty A B || member A Bs

-- a list's element leaves room for the tail's word in a cell of sixteen
abbrev pub roomy : Ty → Bool
roomy int = true
roomy diamond = true
roomy (list_of A) = nat_le (width A) 15
roomy (tree_of A) = true
roomy (pair_of A B) = true
roomy (sum_of A B) = true

-- the number of an entry, and the type that it lists
abbrev pub type_ref : List Ty → Reader Ty
type_ref ts = do
  j ← below (length ts)
  pure (type_at ts j)

-- a type made of one that an earlier entry lists, or of two
abbrev pub one : (Ty → Ty) → List Ty → Reader Ty
one f ts = do
  A ← type_ref ts
  pure (f A)

abbrev pub two : (Ty → Ty → Ty) → List Ty → Reader Ty
two f ts = do
  A ← type_ref ts
  B ← type_ref ts
  pure (f A B)

-- the type of an entry of each kind, from 0: N, diamond, list, tree, pair, sum
abbrev pub forms : List Ty → List (Reader Ty)
forms ts = pure int ∷ pure diamond ∷ one list_of ts ∷ one tree_of ts ∷ two pair_of ts ∷ two sum_of ts ∷ []

-- An entry after those that list the types ts. No type is listed twice: as references number earlier entries, that is to say that no entry repeats an earlier
-- one's kind and references.
unfoldable pub entry_at : List Ty → Reader Ty
entry_at ts = do
  p ← here
  k ← below 6
  A ← get_or (forms ts) k (pure int)
  demand (not (member A ts)) EntryRepeated p
  demand (nat_le (width A) 16 && roomy A) TooWide p
  pure A

-- from 1 to 64 entries
unfoldable pub types_at : Reader (List Ty)
types_at = do
  n ← within_at 1 65
  many n entry_at

-- ---- functions

-- a function's parameter types and result type
pub record Signature : Type 0 where
  pub params : List Ty
  pub result : Ty

-- from 0 to 6 parameters' types and the result's
unfoldable pub signature_at : List Ty → Reader Signature
signature_at ts = do
  n ← below 7
  As ← many n (λ _. type_ref ts)
  B ← type_ref ts
  pure (record { params = As; result = B })

-- from 1 to 32 functions
unfoldable pub signatures_at : List Ty → Reader (List Signature)
signatures_at ts = do
  n ← within_at 1 33
  many n (λ _. signature_at ts)

abbrev pub arity : Signature → ℕ
arity s = length s.params

-- ---- expressions

-- how many parts an expression has, and how many variables each of its arms binds
pub record Shape : Type 0 where
  pub parts : ℕ
  pub arms : List ℕ

abbrev pub has : ℕ → List ℕ → Shape
has n arms = record { parts = n; arms = arms }

-- the shape of each head, where functions have so many parameters
abbrev pub shape : List ℕ → Head → Shape
shape arities (var i) = has 0 []
shape arities (call f) = has (slice_index arities f) []
shape arities (const z) = has 0 []
shape arities (apply o) = has 2 []
shape arities guard = has 1 (0 ∷ 0 ∷ [])
shape arities (mk_pair A) = has 2 []
shape arities case_pair = has 1 (2 ∷ [])
shape arities (mk_left A) = has 1 []
shape arities (mk_right A) = has 1 []
shape arities case_sum = has 1 (1 ∷ 1 ∷ [])
shape arities (mk_nil A) = has 0 []
shape arities mk_cons = has 3 []
shape arities case_list = has 1 (0 ∷ 3 ∷ [])
shape arities (mk_leaf A) = has 1 []
shape arities mk_node = has 5 []
shape arities case_tree = has 1 (1 ∷ 5 ∷ [])

abbrev pub operations : List Infix
operations = plus ∷ minus ∷ times ∷ equal ∷ at_most ∷ []

-- what expressions may name: the types listed, and functions with so many parameters
pub record Names : Type 0 where
  pub types : List Ty
  pub arities : List ℕ

module _ (ns : Names) where
  abbrev pub typed : (Ty → Head) → Reader Head
  typed f = do
    A ← type_ref ns.types
    pure (f A)

  -- the numbers of an expression of each kind, from 0, where `scope` variables are in scope
  abbrev pub heads : ℕ → List (Reader Head)
  heads scope =
      (do
        i ← below scope
        pure (var i)) ∷
      (do
        f ← below (length ns.arities)
        pure (call f)) ∷
      (do
        n ← number_at
        pure (const (unzigzag n))) ∷
      (do
        o ← below 5
        pure (apply (slice_index_or operations o plus))) ∷
      pure guard ∷ typed mk_pair ∷ pure case_pair ∷ typed mk_left ∷ typed mk_right ∷ pure case_sum ∷
      typed mk_nil ∷ pure mk_cons ∷ pure case_list ∷ typed mk_leaf ∷ pure mk_node ∷ pure case_tree ∷ []

  -- an expression begins where `left` more are allowed: its scope is tested, then that it is allowed, and then its kind and numbers are read
  unfoldable pub head_at : ℕ → ℕ → Reader Head
  head_at left scope = do
    p ← here
    demand (nat_le scope 32) TooManyVariables p
    demand (nat_lt 0 left) TooManyExpressions p
    k ← below 16
    slice_index_or (heads scope) k (pure guard)

  -- one expression for each scope in the list
  unfoldable pub each_at : (ℕ → ℕ → Reader Expr) → ℕ → List ℕ → Reader Exprs
  each_at r left [] = pure end
  each_at r left (n ∷ scopes) = do
    e ← r left n
    es ← each_at r (left - size e) scopes
    pure (e then es)

  -- An expression, nested less than k deep. As every level is an expression of its own, with k past the count of those allowed that is no limit.
  unfoldable pub expr_at : ℕ → ℕ → ℕ → Reader Expr
  expr_at zero left scope = λ bs p. refused TooManyExpressions p
  expr_at (suc k) left scope = do
    h ← head_at left scope
    ps ← each_at (λ l n. expr_at k l n) (left - 1) (replicate (shape ns.arities h).parts scope)
    qs ← each_at (λ l n. expr_at k l n) (left - 1 - sizes ps) (map (λ b. scope + b) (shape ns.arities h).arms)
    pure (expr h ps qs)

-- ---- tables

-- the functions, from their signatures and bodies
abbrev pub functions_of : List Signature → Exprs → List Fun
functions_of [] es = []
functions_of (s ∷ ss) end = []
functions_of (s ∷ ss) (e then es) = record { params = s.params; result = s.result; body = e } ∷ functions_of ss es

-- no byte is left over
unfoldable pub finished : Reader (Unit {0})
finished bs p = cond (nat_lt p (length bs)) (refused BytesOver p) (done tt p)

-- the types, the signatures, and one body for each, of at most 512 expressions in all
unfoldable pub table_at : Reader Program
table_at = do
  ts ← types_at
  ss ← signatures_at ts
  es ← each_at (record { types = ts; arities = map arity ss }) (expr_at (record { types = ts; arities = map arity ss }) 513) 512 (map arity ss)
  finished
  pure (record { types = ts; functions = functions_of ss es })

-- the program that a table's bytes spell, or a refusal
abbrev pub scanned_table : List ℕ → Scan Program
scanned_table bs = table_at bs 0
