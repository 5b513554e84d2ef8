-- How the code reads: what the inner functions of the reader promise, told by the readings that define tables.
use Rattle.std.specs.Prelude.{◌≡◌, ℕ, ◌+◌, ◌<◌, ◌≤◌, List, [], ◌∷◌, ◌++◌, map, length, replicate, Some, None, Ok, Err, Option, Result, slice_index_or}
use Rattle.codec.specs.Reading.{Takes, number_at}
use Rattle.codec.specs.declared.cursor.Cursor.{Cursor}
use Rattle.codec.specs.declared.fault.Fault.{Fault}
use Rattle.lfpl.specs.Syntax.{Ty, int, Head, guard}
use Rattle.lfpl.specs.Typing.{type_at}
use Rattle.lfpl.specs.Reading.{◌>>=◌, Reader, pure, below, many, type_ref, forms, Names, shape, heads}
use Rattle.tables.specs.Listed.{Below, formed, Numbers, head_by, head_of, InRange}
use Rattle.tables.specs.declared.listing.Form.{Form}
use Rattle.tables.specs.declared.listing.Signature.{Signature}
use Rattle.tables.specs.declared.expressions.Open.{Open}
use Rattle.tables.specs.declared.expressions.Operand as O
use Rattle.tables.specs.declared.expressions.Operand.TheVariants as Operand
use Rattle.tables.specs.declared.listing.Kind as K
use Rattle.tables.specs.declared.listing.Kind.TheVariants as Kind
use Rattle.tables.specs.declared.listing.Node.{Node}

-- A call at the cursor c answers r and leaves the cursor as c'. It answers what stands for the thing that the reading f gives there, or the refusal of f.
abbrev pub Gives : {X Y : Type 0} → Reader Y → (X → Y → Type 0) → Cursor → Result X Fault → Cursor → Type 0
Gives {X} {Y} f R c (Ok x) c' = (y : Y) × Takes f c (Ok y) c' × R x y
Gives f R c (Err e) c' = Takes f c (Err e) c'

-- ---- types

-- the reference j is the number of the type A
abbrev pub Refers : List Ty → ℕ → Ty → Type 0
Refers ts j A = (j < length ts) × (A ≡ type_at ts j)

-- the reading of an entry's type, before it is tested
abbrev pub form_at : List Ty → Reader Ty
form_at ts = do
  k ← below 6
  slice_index_or (forms ts) k (pure int)

-- the form has the type A, and refers to types of ts only
pub record Makes (ts : List Ty) (f : Form) (A : Ty) : Type 0 where
  pub refers : Below (length ts) f
  pub type : A ≡ formed ts f

-- ---- signatures

-- from 0 to 6 parameters' types
abbrev pub parameters_at : List Ty → Reader (List Ty)
parameters_at ts = do
  n ← below 7
  many n (λ _. type_ref ts)

-- the numbers are those of the types As
abbrev pub Numbered : List Ty → List ℕ → List Ty → Type 0
Numbered ts ns As = Numbers ts ns × (As ≡ map (type_at ts) ns)

-- no function has more than six parameters
abbrev pub Few : List Signature → Type 0
Few [] = Unit {0}
Few (f ∷ fs) = (f.arity ≤ 6) × Few fs

-- ---- expressions

-- what the number of an expression of the kind is
abbrev pub operand_of : K.Kind → O.Operand
operand_of Kind.Variable = Operand.Variable
operand_of Kind.Call = Operand.Function
operand_of Kind.Constant = Operand.Integer
operand_of Kind.Infix = Operand.Operator
operand_of Kind.Guard = Operand.Nothing
operand_of Kind.MakePair = Operand.Type
operand_of Kind.SplitPair = Operand.Nothing
operand_of Kind.MakeLeft = Operand.Type
operand_of Kind.MakeRight = Operand.Type
operand_of Kind.CaseSum = Operand.Nothing
operand_of Kind.EmptyList = Operand.Type
operand_of Kind.MakeCons = Operand.Nothing
operand_of Kind.CaseList = Operand.Nothing
operand_of Kind.MakeLeaf = Operand.Type
operand_of Kind.MakeNode = Operand.Nothing
operand_of Kind.CaseTree = Operand.Nothing

-- how many variables each arm of an expression of the kind binds
abbrev pub arms_of : K.Kind → List ℕ
arms_of k = (shape [] (head_by k [] 0)).arms

-- the code's counts are those of the names: so many types, and functions with so many parameters
pub record Named (count : ℕ) (fs : List Signature) (ns : Names) : Type 0 where
  pub types : length ns.types ≡ count
  pub arities : ns.arities ≡ map (λ f. f.arity) fs

-- the reading of a number, where `scope` variables are in scope; 0 where there is none
abbrev pub operand_at : Names → ℕ → O.Operand → Reader ℕ
operand_at ns scope Operand.Nothing = pure 0
operand_at ns scope Operand.Variable = below scope
operand_at ns scope Operand.Function = below (length ns.arities)
operand_at ns scope Operand.Integer = number_at
operand_at ns scope Operand.Operator = below 5
operand_at ns scope Operand.Type = below (length ns.types)

-- the number is in its range
abbrev pub Ranges : Names → ℕ → O.Operand → ℕ → Type 0
Ranges ns scope Operand.Nothing v = Unit {0}
Ranges ns scope Operand.Variable v = v < scope
Ranges ns scope Operand.Function v = v < length ns.arities
Ranges ns scope Operand.Integer v = Unit {0}
Ranges ns scope Operand.Operator v = v < 5
Ranges ns scope Operand.Type v = v < length ns.types

-- the reading of a kind and its number, where an expression may begin
abbrev pub kind_at : Names → ℕ → Reader Head
kind_at ns scope = do
  k ← below 16
  slice_index_or (heads ns scope) k (pure guard)

-- the node stands for the head, in a scope of so many variables
pub record Begins (ns : Names) (scope : ℕ) (x : Node) (h : Head) : Type 0 where
  pub head : h ≡ head_of ns.types x
  pub range : InRange x.kind ns scope x.number

-- the counts of variables in the scopes of the parts and of the arms that stand under a head
abbrev pub inner : List ℕ → Head → ℕ → List ℕ
inner arities h n = replicate (shape arities h).parts n ++ map (λ b. n + b) (shape arities h).arms

-- the scopes of what an unfinished expression still has to come
unfoldable pub to_come : Open → List ℕ
to_come o = replicate o.parts o.scope ++ map (λ b. o.scope + b) o.arms.now

-- the scopes of what all of them have to come
unfoldable pub waiting : List Open → List ℕ
waiting [] = []
waiting (o ∷ os) = to_come o ++ waiting os

-- the scope of what comes next, and what is then to come
abbrev pub Nexts : List ℕ → Option (ℕ × Open) → Type 0
Nexts scopes None = scopes ≡ []
Nexts scopes (Some (s, o)) = scopes ≡ s ∷ to_come o
