-- The typing of expressions as a relation on the table of rules: each expression has a type, and none shares. The judgement finds exactly these types (Judged),
-- and Hofmann's rules derive exactly these (Numbered, Copied).
use Rattle.std.proofs.Common.{◌≡◌, ℕ, ◌<◌, true, false, ◌↔◌, List, [], ◌∷◌, ◌++◌, length}
use Rattle.lfpl.specs.Syntax.{Ty, Head, Expr, Exprs, expr, end, ◌then◌, Fun, Program}
use Rattle.lfpl.specs.Typing.{rule, fits, fun_at}
use Rattle.lfpl.specs.Judge.{shares, judge, program_verdict, fine}

module _ (fs : List Fun) where
  abbrev mutual
    -- over variables of the types Γ the expression is of the type A
    pub Typ : Expr → List Ty → Ty → Type 0
    Typ (expr h ps qs) Γ A =
        (As : List Ty) × (B : Ty) × TypAll ps Γ As × (fits (rule fs Γ h As) As ≡ true) × TypArms qs (rule fs Γ h As).arms Γ B × ((rule fs Γ h As).whole B ≡ A) ×
        (shares 0 Γ ps qs ≡ false)

    -- the parts are of the types As
    pub TypAll : Exprs → List Ty → List Ty → Type 0
    TypAll end Γ [] = Unit {0}
    TypAll end Γ (A ∷ As) = ⊥
    TypAll (e then es) Γ [] = ⊥
    TypAll (e then es) Γ (A ∷ As) = Typ e Γ A × TypAll es Γ As

    -- the arms, that bind variables of the types l, are all of the type B
    pub TypArms : Exprs → List (List Ty) → List Ty → Ty → Type 0
    TypArms end [] Γ B = Unit {0}
    TypArms end (b ∷ l) Γ B = ⊥
    TypArms (q then qs) [] Γ B = ⊥
    TypArms (q then qs) (b ∷ l) Γ B = Typ q (Γ ++ b) B × TypArms qs l Γ B

  -- an expression with parts of the types Vs done and parts ps of the types As to come, whose arms are of the type B, is of the type A
  abbrev pub Under : Head → List Ty → List Ty → Exprs → Exprs → List Ty → Ty → Ty → Type 0
  Under h Γ Vs ps qs As B A =
      TypAll ps Γ As × (fits (rule fs Γ h (Vs ++ As)) (Vs ++ As) ≡ true) × TypArms qs (rule fs Γ h (Vs ++ As)).arms Γ B × ((rule fs Γ h (Vs ++ As)).whole B ≡ A) ×
      (shares 0 Γ ps qs ≡ false)

  -- each of the functions has a body of its result's type
  abbrev pub Bodies : List Fun → Type 0
  Bodies r = (f : ℕ) → f < length r → Typ (fun_at r f).body (fun_at r f).params (fun_at r f).result

-- the judgement finds a type exactly where there is one
abbrev pub JudgeLaw : Type 0
JudgeLaw = (fs : List Fun) (e : Expr) (n : ℕ) (Γ : List Ty) (A : Ty) → (judge fs e n Γ ≡ fine A) ↔ Typ fs e Γ A

-- and a program is judged fine exactly where each body has its function's type
abbrev pub ProgramLaw : Type 0
ProgramLaw = (p : Program) → (program_verdict p ≡ fine tt) ↔ Bodies p.functions p.functions
