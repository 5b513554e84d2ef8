-- Hofmann's typing rules for LFPL as he states them: contexts are split strictly, and the rule Contr lets variables of heap-free type be shared.
use Rattle.std.specs.Prelude.{◌≡◌, ℕ, suc, ◌+◌, ◌<◌, ◌≤◌, Bool, true, cond, ◌&&◌, List, [], ◌∷◌, length, ℤ, ◌==◌, ◌≢◌}
use Rattle.std.proofs.Math.Option.{Option, none, some}
use Rattle.lfpl.specs.Syntax.{Ty, int, diamond, list_of, tree_of, pair_of, sum_of, is_heap_free, Infix, var, call, const, apply, guard, mk_pair, case_pair, mk_left, mk_right, case_sum, mk_nil, mk_cons, case_list, mk_leaf, mk_node, case_tree, Term, Terms, expr, end, ◌then◌, Expr, rename, Fun, Program}
use Rattle.lfpl.specs.Typing.{fun_at}

-- A name: x, x', x'', .. where x is a number. The names without a prime are the variables that a table numbers; primed ones are copies, used by Contr only.
pub data Name : Type 0 where
  named : (number primes : ℕ) → Name

abbrev pub same_name : Name → Name → Bool
same_name (named v i) (named w j) = v == w && i == j

-- the name of a table's variable
abbrev pub plain : ℕ → Name
plain v = named v 0

-- e[x/y]: every occurrence of the free variable y is replaced by x. Terms are taken modulo renaming of bound variables: a bound variable's name is always the
-- first number that is not in scope, without primes.
abbrev pub replace : Name → Name → Term Name → Term Name
replace x y e = rename (λ z. cond (same_name z y) x z) e

-- a typing context: a partial function from names to types
abbrev pub Context : Type 0
Context = Name → Option Ty

-- how one name of Γ,Δ stands in Γ or in Δ, but never in both
pub data Parted : Option Ty → Option Ty → Option Ty → Type 0 where
  nowhere : Parted none none none
  here : (A : Ty) → Parted (some A) (some A) none
  there : (A : Ty) → Parted (some A) none (some A)

-- Θ is Γ,Δ: the union of contexts that have no name in common
abbrev pub Union : Context → Context → Context → Type 0
Union Θ Γ Δ = (x : Name) → Parted (Θ x) (Γ x) (Δ x)

-- Γ, x:A
abbrev pub with : Context → Name → Ty → Context
with Γ x A z = cond (same_name z x) (some A) (Γ z)

-- Γ, x₀:B₀, x₁:B₁, .. where x₀ is the number n, x₁ the next, ..
abbrev pub extended : ℕ → Context → List Ty → Context
extended n Γ [] = Γ
extended n Γ (B ∷ Bs) = extended (suc n) (with Γ (plain n) B) Bs

-- the numbers from n on, one for each of Bs, are not in the context
abbrev pub New : ℕ → Context → List Ty → Type 0
New n Γ Bs = (v : ℕ) → n ≤ v → v < n + length Bs → Γ (plain v) ≡ none

-- x is not among the names that are bound where n variables are in scope
abbrev pub Free : ℕ → Name → Type 0
Free n x = (v : ℕ) → n ≤ v → x ≢ plain v

-- the function symbol f has the type (A₁, .., Aₘ) → B of the function s
abbrev pub Symbol : List Fun → ℕ → Fun → Type 0
Symbol Σ f s = (f < length Σ) × (fun_at Σ f ≡ s)

-- Γ ⊢ e : A over the functions Σ, where the next variable bound is the number n. The rules have his names.
mutual
  pub data Derives (Σ : List Fun) : ℕ → Context → Term Name → Ty → Type 0 where
    Var : {n : ℕ} {Γ : Context} (x : Name) (A : Ty) → Γ x ≡ some A → Derives Σ n Γ (expr (var x) end end) A
    Sig : {n : ℕ} {Γ : Context} (f : ℕ) (s : Fun) (es : Terms Name) → Symbol Σ f s → Derive Σ n Γ es s.params
        → Derives Σ n Γ (expr (call f) es end) s.result
    Contr : {n : ℕ} {Γ : Context} (e : Term Name) (x y : Name) (A B : Ty) → Free n x → Free n y → (x ≢ y) → Γ x ≡ none → Γ y ≡ none
        → is_heap_free A ≡ true → Derives Σ n (with (with Γ x A) y A) e B → Derives Σ n (with Γ x A) (replace x y e) B
    Const : {n : ℕ} {Γ : Context} (z : ℤ) → Derives Σ n Γ (expr (const z) end end) int
    InfixOp : {n : ℕ} {Θ Γ Δ : Context} (o : Infix) (e₁ e₂ : Term Name) → Union Θ Γ Δ → Derives Σ n Γ e₁ int → Derives Σ n Δ e₂ int
        → Derives Σ n Θ (expr (apply o) (e₁ then e₂ then end) end) int
    If : {n : ℕ} {Θ Γ Δ : Context} (e e₁ e₂ : Term Name) (A : Ty) → Union Θ Γ Δ → Derives Σ n Γ e int → Derives Σ n Δ e₁ A → Derives Σ n Δ e₂ A
        → Derives Σ n Θ (expr guard (e then end) (e₁ then e₂ then end)) A
    Pair : {n : ℕ} {Θ Γ Δ : Context} (e₁ e₂ : Term Name) (A B : Ty) → Union Θ Γ Δ → Derives Σ n Γ e₁ A → Derives Σ n Δ e₂ B
        → Derives Σ n Θ (expr (mk_pair (pair_of A B)) (e₁ then e₂ then end) end) (pair_of A B)
    Split : {n : ℕ} {Θ Γ Δ : Context} (e e₁ : Term Name) (A B C : Ty) → Union Θ Γ Δ → Derives Σ n Γ e (pair_of A B) → Under Σ n Δ (A ∷ B ∷ []) e₁ C
        → Derives Σ n Θ (expr case_pair (e then end) (e₁ then end)) C
    Inl : {n : ℕ} {Γ : Context} (e : Term Name) (A B : Ty) → Derives Σ n Γ e A → Derives Σ n Γ (expr (mk_left (sum_of A B)) (e then end) end) (sum_of A B)
    Inr : {n : ℕ} {Γ : Context} (e : Term Name) (A B : Ty) → Derives Σ n Γ e B → Derives Σ n Γ (expr (mk_right (sum_of A B)) (e then end) end) (sum_of A B)
    SumElim : {n : ℕ} {Θ Γ Δ : Context} (e e₁ e₂ : Term Name) (A B C : Ty) → Union Θ Γ Δ → Derives Σ n Γ e (sum_of A B) → Under Σ n Δ (A ∷ []) e₁ C
        → Under Σ n Δ (B ∷ []) e₂ C → Derives Σ n Θ (expr case_sum (e then end) (e₁ then e₂ then end)) C
    Nil : {n : ℕ} {Γ : Context} (A : Ty) → Derives Σ n Γ (expr (mk_nil (list_of A)) end end) (list_of A)
    Cons : {n : ℕ} {Γ : Context} (e₁ e₂ e₃ : Term Name) (A : Ty) → Derive Σ n Γ (e₁ then e₂ then e₃ then end) (diamond ∷ A ∷ list_of A ∷ [])
        → Derives Σ n Γ (expr mk_cons (e₁ then e₂ then e₃ then end) end) (list_of A)
    ListElim : {n : ℕ} {Θ Γ Δ : Context} (e e₁ e₂ : Term Name) (A C : Ty) → Union Θ Γ Δ → Derives Σ n Γ e (list_of A) → Derives Σ n Δ e₁ C
        → Under Σ n Δ (diamond ∷ A ∷ list_of A ∷ []) e₂ C → Derives Σ n Θ (expr case_list (e then end) (e₁ then e₂ then end)) C
    Leaf : {n : ℕ} {Γ : Context} (e : Term Name) (A : Ty) → Derives Σ n Γ e A → Derives Σ n Γ (expr (mk_leaf (tree_of A)) (e then end) end) (tree_of A)
    Node : {n : ℕ} {Γ : Context} (e₁ e₂ e₃ e₄ e₅ : Term Name) (A : Ty)
        → Derive Σ n Γ (e₁ then e₂ then e₃ then e₄ then e₅ then end) (diamond ∷ diamond ∷ A ∷ tree_of A ∷ tree_of A ∷ [])
        → Derives Σ n Γ (expr mk_node (e₁ then e₂ then e₃ then e₄ then e₅ then end) end) (tree_of A)
    TreeElim : {n : ℕ} {Θ Γ Δ : Context} (e e₁ e₂ : Term Name) (A C : Ty) → Union Θ Γ Δ → Derives Σ n Γ e (tree_of A) → Under Σ n Δ (A ∷ []) e₁ C
        → Under Σ n Δ (diamond ∷ diamond ∷ A ∷ tree_of A ∷ tree_of A ∷ []) e₂ C → Derives Σ n Θ (expr case_tree (e then end) (e₁ then e₂ then end)) C

  -- Γ₁, .., Γₘ where Γᵢ ⊢ eᵢ : Aᵢ for each i; any context, where m is 0
  pub data Derive (Σ : List Fun) : ℕ → Context → Terms Name → List Ty → Type 0 where
    Zero : {n : ℕ} {Γ : Context} → Derive Σ n Γ end []
    One : {n : ℕ} {Γ : Context} (e : Term Name) (A : Ty) → Derives Σ n Γ e A → Derive Σ n Γ (e then end) (A ∷ [])
    More : {n : ℕ} {Θ Γ Δ : Context} (e e₂ : Term Name) (es : Terms Name) (A A₂ : Ty) (As : List Ty) → Union Θ Γ Δ → Derives Σ n Γ e A
        → Derive Σ n Δ (e₂ then es) (A₂ ∷ As) → Derive Σ n Θ (e then e₂ then es) (A ∷ A₂ ∷ As)

  -- Γ, x₀:B₀, x₁:B₁, .. ⊢ e : A where the x are the next numbers and not in Γ
  pub data Under (Σ : List Fun) : ℕ → Context → List Ty → Term Name → Ty → Type 0 where
    Binding : {n : ℕ} {Γ : Context} (Bs : List Ty) (e : Term Name) (A : Ty) → New n Γ Bs → Derives Σ (n + length Bs) (extended n Γ Bs) e A
        → Under Σ n Γ Bs e A

-- x₀:A₀, x₁:A₁, .. ⊢ e : B, where the x are a function's parameters by number
abbrev pub Derivable : List Fun → List Ty → Expr → Ty → Type 0
Derivable Σ As e B = Derives Σ (length As) (extended 0 (λ _. none) As) (rename plain e) B

-- a program is well typed: each body has its function's declared type
abbrev pub WellTyped : Program → Type 0
WellTyped p = (f : ℕ) → f < length p.functions
    → Derivable p.functions (fun_at p.functions f).params (fun_at p.functions f).body (fun_at p.functions f).result
