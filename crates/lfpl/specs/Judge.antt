-- The judgement of a program: each body's type, or the first fault with the number of its expression.
use Rattle.std.specs.Prelude.{ℕ, suc, ◌+◌, Bool, true, false, not, ◌&&◌, ◌||◌, List, [], ◌∷◌, ◌++◌, nat_le}
use Rattle.codec.specs.declared.fault.Refusal.{Refusal}
use Rattle.codec.specs.declared.fault.Refusal.TheVariants.{TypeFault, Sharing}
use Rattle.lfpl.specs.Syntax.{Ty, same_ty, is_heap_free, Expr, Exprs, expr, end, ◌then◌, size, sizes, names, names_any, Fun, Program}
use Rattle.lfpl.specs.Typing.{rule, fits, early, alike, type_at}

-- what is found, or a fault at an expression
pub data Verdict (X : Type 0) : Type 0 where
  fine : X → Verdict X
  faulty : Refusal → ℕ → Verdict X

infixl 10 ◌>>=◌
abbrev pub ◌>>=◌ : {X Y : Type 0} → Verdict X → (X → Verdict Y) → Verdict Y
◌>>=◌ (fine x) f = f x
◌>>=◌ (faulty w i) f = faulty w i

-- x, where the test passes; else the fault w at the expression i
abbrev pub demand : {X : Type 0} → Bool → Refusal → ℕ → X → Verdict X
demand true w i x = fine x
demand false w i x = faulty w i

abbrev pub count : Bool → ℕ
count true = 1
count false = 0

-- in how many of the parts the variable occurs
abbrev pub parts_naming : ℕ → Exprs → ℕ
parts_naming i end = 0
parts_naming i (e then es) = count (names i e) + parts_naming i es

-- Some variable that is not heap-free occurs in two of the parts, all arms together being one part. The variables from the number i on have the types Γ.
abbrev pub shares : ℕ → List Ty → Exprs → Exprs → Bool
shares i [] ps qs = false
shares i (A ∷ Γ) ps qs = (not (is_heap_free A) && nat_le 2 (parts_naming i ps + count (names_any i qs))) || shares (suc i) Γ ps qs

module _ (fs : List Fun) where
  abbrev mutual
    -- The expression that has the number n, over variables of the types Γ: first its parts, left to right; then, for a choice by a kind of type, the kind of its
    -- first part; then its arms; then its own types; and sharing last.
    pub judge : Expr → ℕ → List Ty → Verdict Ty
    judge (expr h ps qs) n Γ =
        exprs_verdict ps (suc n) Γ >>= λ As.
        demand (not (early h) || fits (rule fs Γ h As) As) TypeFault n tt >>= λ (t : Unit {0}).
        arms_verdict qs (rule fs Γ h As).arms n (suc n + sizes ps) Γ >>= λ Bs.
        demand (fits (rule fs Γ h As) As && alike (type_at Bs 0) Bs) TypeFault n tt >>= λ (u : Unit {0}).
        demand (not (shares 0 Γ ps qs)) Sharing n ((rule fs Γ h As).whole (type_at Bs 0))

    pub exprs_verdict : Exprs → ℕ → List Ty → Verdict (List Ty)
    exprs_verdict end n Γ = fine []
    exprs_verdict (e then es) n Γ =
        judge e n Γ >>= λ A.
        exprs_verdict es (n + size e) Γ >>= λ As.
        fine (A ∷ As)

    -- the arms of the expression w, the first of them with the number n, where each binds variables of the types in the list
    pub arms_verdict : Exprs → List (List Ty) → ℕ → ℕ → List Ty → Verdict (List Ty)
    arms_verdict end [] w n Γ = fine []
    arms_verdict end (b ∷ l) w n Γ = faulty TypeFault w
    arms_verdict (q then qs) [] w n Γ = faulty TypeFault w
    arms_verdict (q then qs) (b ∷ l) w n Γ =
        judge q n (Γ ++ b) >>= λ A.
        arms_verdict qs l w (n + size q) Γ >>= λ As.
        fine (A ∷ As)

  -- bodies in order; each must have its function's result type, else the fault is at its outermost expression
  abbrev pub bodies_verdict : List Fun → ℕ → Verdict (Unit {0})
  bodies_verdict [] n = fine tt
  bodies_verdict (f ∷ r) n =
      judge f.body n f.params >>= λ A.
      demand (same_ty A f.result) TypeFault n tt >>= λ (u : Unit {0}).
      bodies_verdict r (n + size f.body)

abbrev pub program_verdict : Program → Verdict (Unit {0})
program_verdict p = bodies_verdict p.functions p.functions 0
