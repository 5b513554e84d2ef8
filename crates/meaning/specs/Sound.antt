-- What judged programs keep to: they never go wrong, a result is of the declared type, and nothing charges more than the arguments did.
use Rattle.std.specs.Prelude.{◌≡◌, ℕ, ◌<◌, ◌≤◌, List, [], ◌∷◌, length}
use Rattle.lfpl.specs.Syntax.{Ty, Program}
use Rattle.lfpl.specs.Typing.{fun_at}
use Rattle.lfpl.specs.Judge.{program_verdict, fine}
use Rattle.lfpl.specs.Values.{In, charge, Typed}
use Rattle.meaning.specs.Mean.{Limit, gives, wrong, Means}
use Rattle.meaning.specs.Machine.{State, going, done, halted, astray, run, start}
use Rattle.meaning.specs.View.{view, charges, charges_seen}

-- the value has the type A and is in its set
abbrev pub Has : Typed → Ty → Type 0
Has x A = (x.type ≡ A) × In A x.value

-- the values are, one by one, of the types
abbrev pub Fit : List Typed → List Ty → Type 0
Fit [] [] = Unit {0}
Fit [] (A ∷ As) = ⊥
Fit (x ∷ xs) [] = ⊥
Fit (x ∷ xs) (A ∷ As) = Has x A × Fit xs As

-- a judged program, one of its functions, and arguments that fit its parameters
abbrev pub Apt : Program → ℕ → List Typed → Type 0
Apt p f xs = (program_verdict p ≡ fine tt) × (f < length p.functions) × Fit xs (fun_at p.functions f).params

-- Judged programs never go wrong, and a result is in the set of the declared result type.
abbrev pub SoundLaw : Type 0
SoundLaw =
    (p : Program) (L : Limit) (f : ℕ) (xs : List Typed) (n : ℕ) → Apt p f xs
    → ¬ (Means p L f xs wrong n) × ((v : Typed) → Means p L f xs (gives v) n → Has v (fun_at p.functions f).result)

-- what a state holds: what its expressions still name, or the result
abbrev pub held : State → ℕ
held (going i K) = charges_seen (view (going i K))
held (done v) = charge v.value
held (halted y) = 0
held astray = 0

-- The linear law: however many steps are taken, what the state still names, or the result, never charges more cells than the arguments did.
abbrev pub LinearLaw : Type 0
LinearLaw = (p : Program) (L : Limit) (f : ℕ) (xs : List Typed) (n : ℕ) → Apt p f xs → held (run p L n (start p f xs)).0 ≤ charges xs
