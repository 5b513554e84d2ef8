-- A going run's state as it is told: each expression with its number, height and words, the values of its parts done, and the variables that are still named. (The
-- machine itself keeps all variables in scope.)
use Rattle.std.specs.Prelude.{ℕ, suc, ◌+◌, Bool, cond, ◌||◌, List, [], ◌∷◌}
use Rattle.std.proofs.Math.Option.{Option, none, some}
use Rattle.lfpl.specs.Syntax.{names, names_any}
use Rattle.lfpl.specs.Values.{charge, Typed}
use Rattle.meaning.specs.Mean.{Level, total}
use Rattle.meaning.specs.Machine.{Item, Frame, State, going, done, halted, astray}

-- an expression of a going run; each variable that is still named stands at its number
pub record Seen : Type 0 where
  pub number : ℕ
  pub level : Level
  pub values : List Typed
  pub variables : List (Option Typed)

-- the variables that the test names, the first of them having the number i
abbrev pub keep : (ℕ → Bool) → ℕ → List Typed → List (Option Typed)
keep named i [] = []
keep named i (x ∷ xs) = cond (named i) (some x) none ∷ keep named (suc i) xs

-- the expression to begin next keeps the variables that it names
abbrev pub seen_item : Item → Seen
seen_item i = record { number = i.number; level = i.level; values = []; variables = keep (λ j. names j i.term) 0 i.env }

-- an expression that waits for a part keeps the variables that its parts to come and its arms name
abbrev pub seen_frame : Frame → Seen
seen_frame k =
    record { number = k.number; level = k.level; values = k.values; variables = keep (λ j. names_any j k.rest || names_any j k.arms) 0 k.env }

-- the waiting expressions, outermost first, before those in the list
abbrev pub seen_frames : List Frame → List Seen → List Seen
seen_frames [] seen = seen
seen_frames (k ∷ K) seen = seen_frames K (seen_frame k ∷ seen)

-- the waiting expressions, outermost first, and the expression to begin next; nothing once the run has ended
abbrev pub view : State → List Seen
view (going i K) = seen_frames K (seen_item i ∷ [])
view (done v) = []
view (halted y) = []
view astray = []

-- ---- charges

-- the charge of some values
abbrev pub charges : List Typed → ℕ
charges xs = total (λ x. charge x.value) xs

-- the charge of the variables kept
abbrev pub charges_kept : List (Option Typed) → ℕ
charges_kept [] = 0
charges_kept (none ∷ l) = charges_kept l
charges_kept (some x ∷ l) = charge x.value + charges_kept l

-- the charge of all that is seen
abbrev pub charges_seen : List Seen → ℕ
charges_seen [] = 0
charges_seen (s ∷ seen) = (charges s.values + charges_kept s.variables) + charges_seen seen
