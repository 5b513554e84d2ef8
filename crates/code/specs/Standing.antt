-- What code has to do with the program that it stands for: each expression of each body has its operation, at its number and over its words.
use Rattle.std.specs.Prelude.{◌≡◌, ℕ, ◌+◌, ◌<◌, ◌≤◌, true, false, List, [], ◌∷◌, ◌++◌, length, slice_index}
use Rattle.std.specs.Int.{w32}
use Rattle.std.proofs.Common.{of_z}
use Rattle.std.specs.List.{AllByRecursion}
use Rattle.lfpl.specs.Judge.{count, parts_naming}
use Rattle.lfpl.specs.Reading.{roomy}
use Rattle.lfpl.specs.Syntax as lfpl
use Rattle.lfpl.specs.Syntax.{Ty, width, first, second, is_heap_free, Head, var, call, const, apply, guard, mk_pair, case_pair, mk_left, mk_right, case_sum, mk_nil, mk_cons, case_list, mk_leaf, mk_node, case_tree, Expr, Exprs, expr, end, ◌then◌, size, sizes, names_any, Fun, Program}
use Rattle.lfpl.specs.Typing.{type_at, fun_at, rule, fits}
use Rattle.meaning.specs.Act.{wrap}
use Rattle.meaning.specs.Machine.{body_number}
use Rattle.typing.specs.Scopes.{widths, offsets}
use Rattle.code.specs.Nodes.{node_at, start_at}
use Rattle.code.specs.declared.Code.{Code}
use Rattle.code.specs.declared.Infix.{Infix}
use Rattle.code.specs.declared.Infix.TheVariants.{Plus, Minus, Times, Equal, AtMost}
use Rattle.code.specs.declared.Op.{Op}
use Rattle.code.specs.declared.Op.TheVariants.{Variable, Call, Constant, Apply, Guard, Pair, Split, Tag, CaseSum, Empty, Cons, CaseList, Fork, CaseTree}

abbrev pub code_infix : lfpl.Infix → Infix
code_infix lfpl.plus = Plus
code_infix lfpl.minus = Minus
code_infix lfpl.times = Times
code_infix lfpl.equal = Equal
code_infix lfpl.at_most = AtMost

-- The operation of a head over variables of the types Γ that lie at the places ps, where its parts have the types As: the widths are those of the types that it is
-- about, and a number of N is its word in two's complement (one that N does not hold wraps, as it does in what it means).
abbrev pub operation : List Fun → List Ty → List ℕ → Head → List Ty → Op
operation fs Γ ps (var i) As = Variable (slice_index ps i) (width (type_at Γ i))
operation fs Γ ps (call f) As = Call (body_number fs f)
operation fs Γ ps (const z) As = Constant (of_z w32 (wrap z))
operation fs Γ ps (apply o) As = Apply (code_infix o)
operation fs Γ ps guard As = Guard
operation fs Γ ps (mk_pair A) As = Pair (width A)
operation fs Γ ps case_pair As = Split
operation fs Γ ps (mk_left A) As = Tag 0 (width (first A))
operation fs Γ ps (mk_right A) As = Tag 1 (width (second A))
operation fs Γ ps case_sum As = CaseSum (width (first (type_at As 0))) (width (second (type_at As 0)))
operation fs Γ ps (mk_nil A) As = Empty
operation fs Γ ps mk_cons As = Cons (width (first (type_at As 2)))
operation fs Γ ps case_list As = CaseList (width (first (type_at As 0)))
operation fs Γ ps (mk_leaf A) As = Tag 0 (width (first A))
operation fs Γ ps mk_node As = Fork (width (first (type_at As 3)))
operation fs Γ ps case_tree As = CaseTree (width (first (type_at As 0)))

-- a type that a table may have: at most 16 words wide, and a list's element at most 15
pub record Narrow (A : Ty) : Type 0 where
  pub low : width A ≤ 16
  pub element : roomy A ≡ true

-- Each variable of the types Γ that is not heap-free occurs in one of the parts at most, all arms together being one.
abbrev pub Apart : List Ty → Exprs → Exprs → Type 0
Apart Γ ps qs = (i : ℕ) → i < length Γ → is_heap_free (type_at Γ i) ≡ false → parts_naming i ps + count (names_any i qs) ≤ 1

module _ (fs : List Fun) (code : Code) where
  -- The expression with the number n has the head h, over variables of the types Γ at the places ps; it stands over o words above its body's first, its parts have
  -- the types As, its first arm would have the number a, and its arms the type B; the whole has the type W, as the typing rule says.
  pub record Sits (n : ℕ) (h : Head) (Γ : List Ty) (ps : List ℕ) (o a : ℕ) (As : List Ty) (B W : Ty) : Type 0 where
    pub inside : n < 512
    pub works : (node_at code n).op ≡ operation fs Γ ps h As
    pub over : (node_at code n).over ≡ o
    pub arms : (node_at code n).arms ≡ a
    pub fit : fits (rule fs Γ h As) As ≡ true
    pub whole : (rule fs Γ h As).whole B ≡ W
    pub few : length As ≤ 6
    pub parts : AllByRecursion Narrow As
    pub narrow : Narrow W

  abbrev mutual
    -- The expression stands in the code at the number n, over variables of the types Γ that lie at the places ps, over o words of its body, and has the type W.
    pub Stands : Expr → ℕ → List Ty → List ℕ → ℕ → Ty → Type 0
    Stands (expr h es qs) n Γ ps o W =
        (As : List Ty) × (B : Ty) × Sits n h Γ ps o (n + 1 + sizes es) As B W × ((node_at code n).end ≡ n + size (expr h es qs)) × Apart Γ es qs
        × StandsAll es (n + 1) Γ ps o As × StandsArms qs (n + 1 + sizes es) (rule fs Γ h As).arms Γ ps o B

    -- parts of the types As, each over the words of those before it
    pub StandsAll : Exprs → ℕ → List Ty → List ℕ → ℕ → List Ty → Type 0
    StandsAll end n Γ ps o [] = Unit {0}
    StandsAll end n Γ ps o (A ∷ As) = ⊥
    StandsAll (e then es) n Γ ps o [] = ⊥
    StandsAll (e then es) n Γ ps o (A ∷ As) = Stands e n Γ ps o A × StandsAll es (n + size e) Γ ps (o + width A) As

    -- arms of the type B, each over the words of the variables that it binds
    pub StandsArms : Exprs → ℕ → List (List Ty) → List Ty → List ℕ → ℕ → Ty → Type 0
    StandsArms end n [] Γ ps o B = Unit {0}
    StandsArms end n (b ∷ bs) Γ ps o B = ⊥
    StandsArms (q then qs) n [] Γ ps o B = ⊥
    StandsArms (q then qs) n (b ∷ bs) Γ ps o B = Stands q n (Γ ++ b) (ps ++ offsets o b) (o + widths b) B × StandsArms qs (n + size q) bs Γ ps o B

-- The code stands for the program: each function's body stands where the code says that it begins, its parameters lying from its first word on.
pub record Encodes (code : Code) (p : Program) : Type 0 where
  pub starts : (f : ℕ) → f < length p.functions → start_at code f ≡ body_number p.functions f
  pub bodies : (f : ℕ) → f < length p.functions
      → Stands p.functions code (fun_at p.functions f).body (body_number p.functions f) (fun_at p.functions f).params (offsets 0 (fun_at p.functions f).params) (widths (fun_at p.functions f).params) (fun_at p.functions f).result
  pub params : (f : ℕ) → f < length p.functions → (length (fun_at p.functions f).params ≤ 6) × AllByRecursion Narrow (fun_at p.functions f).params
