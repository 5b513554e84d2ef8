-- What is proved of the judgement.
use Rattle.std.specs.Prelude.{◌≡◌, ℕ, true, ◌↔◌, List, [], ◌∷◌, map, length}
use Rattle.lfpl.specs.Syntax.{Ty, int, plus, Head, var, apply, Expr, expr, end, ◌then◌, Fun, Program}
use Rattle.lfpl.specs.Judge.{judge, program_verdict, fine}
use Rattle.lfpl.specs.Typing.{rule, fits}
use Rattle.lfpl.specs.Reading.{shape}
use Rattle.lfpl.specs.Hofmann.{Derivable, WellTyped}

-- the judgement finds exactly the types that Hofmann's rules derive
abbrev pub JudgementIsHofmanns : Type 0
JudgementIsHofmanns = (Σ : List Fun) (As : List Ty) (n : ℕ) (e : Expr) (B : Ty) → (judge Σ e n As ≡ fine B) ↔ Derivable Σ As e B

-- and passes exactly the well-typed programs
abbrev pub ProgramsAreHofmanns : Type 0
ProgramsAreHofmanns = (p : Program) → (program_verdict p ≡ fine tt) ↔ WellTyped p

-- Contr at work: x:N ⊢ x + x : N
abbrev pub SumOfOne : Type 0
SumOfOne = (Σ : List Fun) → Derivable Σ (int ∷ []) (expr (apply plus) (expr (var 0) end end then expr (var 0) end end then end) end) int

-- What is read of an expression is what its rule asks: as many parts as the rule wants, and as many variables for each arm as it binds there.
abbrev pub ShapesAreTheRules : Type 0
ShapesAreTheRules = (fs : List Fun) (Γ : List Ty) (h : Head) (As : List Ty) → fits (rule fs Γ h As) As ≡ true
    → ((shape (map (λ f. length f.params) fs) h).parts ≡ length As) × ((shape (map (λ f. length f.params) fs) h).arms ≡ map length (rule fs Γ h As).arms)
