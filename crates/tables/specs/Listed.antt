-- What a flat table lists: the program that its entries, signatures and nodes stand for.
use Rattle.std.specs.Prelude.{◌≡◌, ℕ, ◌+◌, ◌<◌, ◌≤◌, true, List, [], ◌∷◌, map, length, take, replicate, slice_index_or}
use Rattle.codec.specs.Integer.{unzigzag}
use Rattle.lfpl.specs.Syntax.{Ty, int, diamond, list_of, tree_of, pair_of, sum_of, width, is_heap_free, plus, Head, var, call, const, apply, guard, mk_pair, case_pair, mk_left, mk_right, case_sum, mk_nil, mk_cons, case_list, mk_leaf, mk_node, case_tree, Expr, Exprs, expr, end, ◌then◌, Program}
use Rattle.lfpl.specs.Typing.{type_at}
use Rattle.lfpl.specs.Reading.{Names, shape, operations, roomy, Signature as TypeOf, functions_of, arity}
use Rattle.tables.specs.declared.listing.Entry.{Entry}
use Rattle.tables.specs.declared.listing.Form as F
use Rattle.tables.specs.declared.listing.Form.TheVariants as Form
use Rattle.tables.specs.declared.listing.Kind as K
use Rattle.tables.specs.declared.listing.Kind.TheVariants as Kind
use Rattle.tables.specs.declared.listing.Listing.{Listing}
use Rattle.tables.specs.declared.listing.Node.{Node}
use Rattle.tables.specs.declared.listing.Signature.{Signature}

-- ---- types

-- the form's references are below n
abbrev pub Below : ℕ → F.Form → Type 0
Below n Form.Number = Unit {0}
Below n Form.Diamond = Unit {0}
Below n (Form.List a) = a < n
Below n (Form.Tree a) = a < n
Below n (Form.Pair a b) = (a < n) × (b < n)
Below n (Form.Sum a b) = (a < n) × (b < n)

-- the type of the form, where its references are numbers among the types ts
abbrev pub formed : List Ty → F.Form → Ty
formed ts Form.Number = int
formed ts Form.Diamond = diamond
formed ts (Form.List a) = list_of (type_at ts a)
formed ts (Form.Tree a) = tree_of (type_at ts a)
formed ts (Form.Pair a b) = pair_of (type_at ts a) (type_at ts b)
formed ts (Form.Sum a b) = sum_of (type_at ts a) (type_at ts b)

-- what stands past the last entry
abbrev pub no_entry : Entry
no_entry = record { form = Form.Number; width = 1; heap_free = true }

-- the entry with the number i
abbrev pub entry_of : List Entry → ℕ → Entry
entry_of es i = slice_index_or es i no_entry

-- the entry with the number i lists the type that stands at i among ts: it refers to earlier entries only, and notes its type's width and whether it is heap-free
pub record Lists (ts : List Ty) (i : ℕ) (e : Entry) : Type 0 where
  pub refers : Below i e.form
  pub type : type_at ts i ≡ formed ts e.form
  pub width : e.width ≡ width (type_at ts i)
  pub free : e.heap_free ≡ is_heap_free (type_at ts i)

-- the entries list the types ts: none twice, and none too wide
pub record Types (es : List Entry) (ts : List Ty) : Type 0 where
  pub long : length es ≡ length ts
  pub lists : (i : ℕ) → i < length ts → Lists ts i (entry_of es i)
  pub distinct : (i j : ℕ) → i < length ts → j < length ts → type_at ts i ≡ type_at ts j → i ≡ j
  pub narrow : (i : ℕ) → i < length ts → width (type_at ts i) ≤ 16
  pub roomy : (i : ℕ) → i < length ts → roomy (type_at ts i) ≡ true

-- ---- signatures

-- numbers of entries, each one of the types
abbrev pub Numbers : List Ty → List ℕ → Type 0
Numbers ts [] = Unit {0}
Numbers ts (t ∷ l) = (t < length ts) × Numbers ts l

-- the signature is the function type s
pub record Signs (ts : List Ty) (f : Signature) (s : TypeOf) : Type 0 where
  pub few : f.arity ≤ 6
  pub full : length f.params ≡ 6
  pub numbers : Numbers ts (take f.arity f.params)
  pub params : s.params ≡ map (type_at ts) (take f.arity f.params)
  pub number : f.result < length ts
  pub result : s.result ≡ type_at ts f.result

-- the signatures are the function types, one for one
abbrev pub AllSign : List Ty → List Signature → List TypeOf → Type 0
AllSign ts [] [] = Unit {0}
AllSign ts [] (s ∷ ss) = ⊥
AllSign ts (f ∷ fs) [] = ⊥
AllSign ts (f ∷ fs) (s ∷ ss) = Signs ts f s × AllSign ts fs ss

-- ---- expressions

-- the head that a kind and a number stand for, where types are numbered as in ts
abbrev pub head_by : K.Kind → List Ty → ℕ → Head
head_by Kind.Variable ts v = var v
head_by Kind.Call ts f = call f
head_by Kind.Constant ts n = const (unzigzag n)
head_by Kind.Infix ts o = apply (slice_index_or operations o plus)
head_by Kind.Guard ts n = guard
head_by Kind.MakePair ts t = mk_pair (type_at ts t)
head_by Kind.SplitPair ts n = case_pair
head_by Kind.MakeLeft ts t = mk_left (type_at ts t)
head_by Kind.MakeRight ts t = mk_right (type_at ts t)
head_by Kind.CaseSum ts n = case_sum
head_by Kind.EmptyList ts t = mk_nil (type_at ts t)
head_by Kind.MakeCons ts n = mk_cons
head_by Kind.CaseList ts n = case_list
head_by Kind.MakeLeaf ts t = mk_leaf (type_at ts t)
head_by Kind.MakeNode ts n = mk_node
head_by Kind.CaseTree ts n = case_tree

-- the head that a node stands for
abbrev pub head_of : List Ty → Node → Head
head_of ts x = head_by x.kind ts x.number

-- the number of an expression is in its range, where n variables are in scope
abbrev pub InRange : K.Kind → Names → ℕ → ℕ → Type 0
InRange Kind.Variable ns n v = v < n
InRange Kind.Call ns n f = f < length ns.arities
InRange Kind.Constant ns n c = Unit {0}
InRange Kind.Infix ns n o = o < 5
InRange Kind.Guard ns n v = Unit {0}
InRange Kind.MakePair ns n t = t < length ns.types
InRange Kind.SplitPair ns n v = Unit {0}
InRange Kind.MakeLeft ns n t = t < length ns.types
InRange Kind.MakeRight ns n t = t < length ns.types
InRange Kind.CaseSum ns n v = Unit {0}
InRange Kind.EmptyList ns n t = t < length ns.types
InRange Kind.MakeCons ns n v = Unit {0}
InRange Kind.CaseList ns n v = Unit {0}
InRange Kind.MakeLeaf ns n t = t < length ns.types
InRange Kind.MakeNode ns n v = Unit {0}
InRange Kind.CaseTree ns n v = Unit {0}

-- The expression stands in the nodes from i up to j, where n variables are in scope; several stand one after another, each in its scope.
mutual
  pub data Stands (ns : Names) (nodes : List Node) : ℕ → ℕ → Expr → ℕ → Type 0 where
    stands : (n i j k : ℕ) (x : Node) (ps qs : Exprs) → i < length nodes → ((d : Node) → slice_index_or nodes i d ≡ x) → n ≤ 32 → InRange x.kind ns n x.number
        → AllStand ns nodes (replicate (shape ns.arities (head_of ns.types x)).parts n) (i + 1) ps j
        → AllStand ns nodes (map (λ b. n + b) (shape ns.arities (head_of ns.types x)).arms) j qs k
        → Stands ns nodes n i (expr (head_of ns.types x) ps qs) k

  pub data AllStand (ns : Names) (nodes : List Node) : List ℕ → ℕ → Exprs → ℕ → Type 0 where
    all_end : (i : ℕ) → i ≤ length nodes → AllStand ns nodes [] i end i
    all_more : (n : ℕ) (scopes : List ℕ) (i j k : ℕ) (e : Expr) (es : Exprs) → Stands ns nodes n i e j → AllStand ns nodes scopes j es k
        → AllStand ns nodes (n ∷ scopes) i (e then es) k

-- ---- tables

-- what the bodies of a table may name
abbrev pub names_for : List Ty → List TypeOf → Names
names_for ts ss = record { types = ts; arities = map arity ss }

-- the listing lists the program
pub record Holds (l : Listing) (p : Program) : Type 0 where
  pub signatures : List TypeOf
  pub bodies : Exprs
  pub functions : p.functions ≡ functions_of signatures bodies
  pub few_types : l.types ≤ 64
  pub few_functions : l.functions ≤ 32
  pub few_nodes : l.expressions ≤ 512
  pub types : Types (take l.types l.entries) p.types
  pub sign : AllSign p.types (take l.functions l.signatures) signatures
  pub stand : AllStand (names_for p.types signatures) (take l.expressions l.nodes) (map arity signatures) 0 bodies l.expressions
