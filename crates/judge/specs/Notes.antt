-- What is noted at each expression of a table that is admitted: the static relation on which a machine may rely.
use Rattle.std.specs.Prelude.{◌≡◌, ℕ, ◌+◌, ◌<◌, true, false, List, [], ◌∷◌, ◌++◌, length, slice_index, slice_index_or}
use Rattle.lfpl.specs.Syntax.{Ty, width, Head, var, Expr, Exprs, expr, end, ◌then◌, size, sizes, Fun}
use Rattle.lfpl.specs.Typing.{rule, fits}
use Rattle.lfpl.specs.Judge.{shares}
use Rattle.typing.specs.Codes.{Coded}
use Rattle.typing.specs.declared.codes.Code.TheVariants as Code
pub use Rattle.typing.specs.Scopes.{widths, offsets}
use Rattle.judge.specs.declared.table.Note.{Note}

-- the note at the expression with the number n
abbrev pub note_at : List Note → ℕ → Note
note_at notes n = slice_index_or notes n (record { code = Code.Number; end = 0; place = 0; over = 0 })

-- What is told at each expression of a body is one relation `Here`: of its number, its head, parts and arms, the types and places of its variables, the words that it
-- stands over, the types of its parts, the type of its arms and its own. `Each` holds of an expression where `Here` holds at it and at all within it.
module _ (fs : List Fun) (Here : ℕ → Head → Exprs → Exprs → List Ty → List ℕ → ℕ → List Ty → Ty → Ty → Type 0) where
  abbrev mutual
    -- The expression with the number n, over variables of the types Γ that lie at the places, stands over so many words of its body and has the type W.
    pub Each : Expr → ℕ → List Ty → List ℕ → ℕ → Ty → Type 0
    Each (expr h ps qs) n Γ places over W =
        (As : List Ty) × (B : Ty) × Here n h ps qs Γ places over As B W × EachPart ps (n + 1) Γ places over As
        × EachArm qs (n + 1 + sizes ps) (rule fs Γ h As).arms Γ places over B

    -- parts of the types As, each over the words of those before it
    pub EachPart : Exprs → ℕ → List Ty → List ℕ → ℕ → List Ty → Type 0
    EachPart end n Γ places over [] = Unit {0}
    EachPart end n Γ places over (A ∷ As) = ⊥
    EachPart (e then es) n Γ places over [] = ⊥
    EachPart (e then es) n Γ places over (A ∷ As) = Each e n Γ places over A × EachPart es (n + size e) Γ places (over + width A) As

    -- arms of the type B, each over the words of the variables that it binds
    pub EachArm : Exprs → ℕ → List (List Ty) → List Ty → List ℕ → ℕ → Ty → Type 0
    EachArm end n [] Γ places over B = Unit {0}
    EachArm end n (b ∷ bs) Γ places over B = ⊥
    EachArm (q then qs) n [] Γ places over B = ⊥
    EachArm (q then qs) n (b ∷ bs) Γ places over B =
        Each q n (Γ ++ b) (places ++ offsets over b) (over + widths b) B × EachArm qs (n + size q) bs Γ places over B

  -- a function's body, the outermost expression of which has the number n: its parameters lie from 0 on
  abbrev pub EachOfBody : Fun → ℕ → Type 0
  EachOfBody f n = Each f.body n f.params (offsets 0 f.params) (widths f.params) f.result

module _ (ts : List Ty) (fs : List Fun) (notes : List Note) where
  -- The note at an expression with the number n, over variables of the types Γ that lie at the places, whose parts have the types As and whose arms have the type B:
  -- the code of its type W, the number after its last expression, and for a variable its place. The types are as the typing rule says, and no variable is shared.
  pub record NotedAt (n : ℕ) (h : Head) (ps qs : Exprs) (Γ : List Ty) (places : List ℕ) (As : List Ty) (B W : Ty) : Type 0 where
    pub inside : n < length notes
    pub code : Coded ts (note_at notes n).code W
    pub ends : (note_at notes n).end ≡ n + size (expr h ps qs)
    pub place : (i : ℕ) → h ≡ var i → (note_at notes n).place ≡ slice_index places i
    pub fit : fits (rule fs Γ h As) As ≡ true
    pub whole : (rule fs Γ h As).whole B ≡ W
    pub apart : shares 0 Γ ps qs ≡ false

  abbrev NotedHere : ℕ → Head → Exprs → Exprs → List Ty → List ℕ → ℕ → List Ty → Ty → Ty → Type 0
  NotedHere n h ps qs Γ places over As B W = NotedAt n h ps qs Γ places As B W

  -- all of an expression is so noted, or all of its parts, its arms, a function's body
  abbrev pub Noted : Expr → ℕ → List Ty → List ℕ → ℕ → Ty → Type 0
  Noted = Each fs NotedHere

  abbrev pub NotedAll : Exprs → ℕ → List Ty → List ℕ → ℕ → List Ty → Type 0
  NotedAll = EachPart fs NotedHere

  abbrev pub NotedArms : Exprs → ℕ → List (List Ty) → List Ty → List ℕ → ℕ → Ty → Type 0
  NotedArms = EachArm fs NotedHere

  abbrev pub NotedBody : Fun → ℕ → Type 0
  NotedBody = EachOfBody fs NotedHere
