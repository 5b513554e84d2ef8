-- What is noted besides at each expression of a table that is admitted: over how many words of its body it stands. The machine puts an expression's value and parts
-- above these words.
use Rattle.std.specs.Prelude.{◌≡◌, ℕ, ◌≤◌, List}
use Rattle.lfpl.specs.Syntax.{Ty, Head, Expr, Exprs, Fun}
use Rattle.judge.specs.Notes.{note_at, NotedAt, Each, EachPart, EachArm, EachOfBody}
use Rattle.judge.specs.declared.table.Note.{Note}

module _ (ts : List Ty) (fs : List Fun) (notes : List Note) where
  -- An expression is noted, and its note tells the words of its body that it stands over: no more than 96 for each of 512 expressions.
  pub record NotedOverAt (n : ℕ) (h : Head) (ps qs : Exprs) (Γ : List Ty) (places : List ℕ) (words : ℕ) (As : List Ty) (B W : Ty) : Type 0 where
    pub noted : NotedAt ts fs notes n h ps qs Γ places As B W
    pub over : (note_at notes n).over ≡ words
    pub few : words ≤ 49152

  -- all of an expression is so noted, or all of its parts, its arms, a function's body
  abbrev pub NotedOver : Expr → ℕ → List Ty → List ℕ → ℕ → Ty → Type 0
  NotedOver = Each fs NotedOverAt

  abbrev pub NotedOverAll : Exprs → ℕ → List Ty → List ℕ → ℕ → List Ty → Type 0
  NotedOverAll = EachPart fs NotedOverAt

  abbrev pub NotedOverArms : Exprs → ℕ → List (List Ty) → List Ty → List ℕ → ℕ → Ty → Type 0
  NotedOverArms = EachArm fs NotedOverAt

  abbrev pub NotedOverBody : Fun → ℕ → Type 0
  NotedOverBody = EachOfBody fs NotedOverAt
