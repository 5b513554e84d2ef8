-- What the machine's calls do to the state that it enacts.
use Rattle.std.specs.Prelude.{◌≡◌, ℕ, ◌+◌, ◌<◌, ◌≤◌, Bool, true, false, List, length, slice_set}
use Rattle.lfpl.specs.Syntax.{Ty, Program}
use Rattle.meaning.specs.Machine.{Frame, State, going, done, halted, astray, landing, proceed, return, step, run}
use Rattle.meaning.specs.Mean.{height, words, limited}
use Rattle.pool.specs.Pools.{Meaning, held, limit}
use Rattle.store.specs.Layout.{occ, used}
use Rattle.code.specs.Nodes.{node_at}
use Rattle.code.specs.declared.Code.{Code}
use Rattle.code.specs.declared.Next.{Next}
use Rattle.code.specs.declared.Next.TheVariants.{Value, First, Second, Body}
use Rattle.code.specs.declared.Node.{Node}
use Rattle.acts.specs.Effects.{Effect}
use Rattle.machine.specs.Enacting.{own, Founded, Ready, Enacts}
use Rattle.machine.specs.declared.Limit.TheVariants as Limit
use Rattle.machine.specs.declared.Machine.{Machine}
use Rattle.machine.specs.declared.Mode.{Mode}
use Rattle.machine.specs.declared.Mode.TheVariants.{Begin, Return, Done, Halted}
use Rattle.machine.specs.declared.Progress as P
use Rattle.machine.specs.declared.Progress.TheVariants as Progress
use Rattle.machine.specs.declared.Ran.{Ran}
use Rattle.machine.specs.declared.Waiting.{Waiting}

-- one step of the abstract machine; a run that has ended takes none
abbrev pub stepped : Program → State → State
stepped p (going i K) = step p limited i K
stepped p (done v) = done v
stepped p (halted y) = halted y
stepped p astray = astray

-- One turn of the machine is a step where an expression is to begin. A value on its way back changes nothing: the state is that in which it has come back.
abbrev pub turned : Mode → Program → State → State
turned (Begin n b d h) p s = stepped p s
turned Return p s = s
turned Done p s = s
turned (Halted y) p s = s

-- The run holds the same cells; only their words may have changed, and of the pool nothing else.
pub record Rest (m : Meaning) (x : Machine) (m' : Meaning) (x' : Machine) : Type 0 where
  pub cells : own x' ≡ own x
  pub still : (c : ℕ) → occ c (own x) ≡ 0 → held m' c ≡ held m c
  pub taken : (c : ℕ) → used m' c ≡ used m c
  pub count : m'.free ≡ m.free
  pub bound : limit m' ≡ limit m

-- the call takes the state that is enacted to the state that f makes of it
abbrev pub Takes : (Program → State → State) → Code → Meaning → Machine → Meaning → Machine → Type 0
Takes f code m x m' x' = (p : Program) (R : Ty) (s : State) → Enacts p R code m x s → Enacts p R code m' x' (f p s) × Rest m x m' x'

-- ---- how a run is carried

-- a value is on its way back
abbrev pub Returning : Mode → Type 0
Returning (Begin n b d h) = ⊥
Returning Return = Unit {0}
Returning Done = ⊥
Returning (Halted y) = ⊥

-- how a run stands, by the mode
abbrev pub progress_of : Mode → P.Progress
progress_of (Begin n b d h) = Progress.Going
progress_of Return = Progress.Going
progress_of Done = Progress.Done
progress_of (Halted y) = Progress.Halted y

-- the answer is the state's
abbrev pub Says : P.Progress → State → Type 0
Says a (going i K) = a ≡ Progress.Going
Says a (done v) = a ≡ Progress.Done
Says a (halted height) = a ≡ Progress.Halted Limit.Height
Says a (halted words) = a ≡ Progress.Halted Limit.Words
Says a astray = ⊥

-- at most n steps from the state s were taken: their count, the state that they leave and how the run then stands are the abstract machine's
pub record Carried (p : Program) (R : Ty) (code : Code) (m : Meaning) (x : Machine) (s : State) (n : ℕ) (a : Ran) (m' : Meaning) (x' : Machine) : Type 0 where
  pub enacts : Enacts p R code m' x' (run p limited n s).0
  pub counts : a.steps ≡ (run p limited n s).1
  pub says : Says a.progress (run p limited n s).0
  pub settled : Returning x'.mode → ⊥
  pub stands : a.progress ≡ progress_of x'.mode
  pub rest : Rest m x m' x'

-- ---- inner parts of a turn

-- the record of an expression, of its numbers
abbrev pub waiting : ℕ → ℕ → ℕ → ℕ → ℕ → Waiting
waiting n c b d h = record { number = n; coming = c; base = b; dest = d; height = h }

-- an expression of the record r goes on, none of its parts being under way
pub record Readied (p : Program) (R : Ty) (code : Code) (m : Meaning) (x : Machine) (r : Waiting) (k : Frame) (K : List Frame) : Type 0 where
  pub founded : Founded p code m x
  pub depth : x.depth ≡ length K
  pub ready : Ready p.functions code R m x.words x.waiting (own x) r k K

-- the state that an expression under way comes to when it goes on over those that wait
abbrev pub proceeds : Program → Frame → List Frame → State
proceeds p k K = landing (proceed p.functions k) K (λ u. return p.functions K u)

-- the record of an expression whose next part has begun
abbrev pub onward : Code → Waiting → Waiting
onward code r = record { number = r.number; coming = (node_at code r.coming).end; base = r.base; dest = r.dest; height = r.height }

-- the next part of the expression r is to begin, and it waits for it
pub record Passed (code : Code) (x : Machine) (r : Waiting) (x' : Machine) : Type 0 where
  pub words : x'.words ≡ x.words
  pub cells : x'.cells ≡ x.cells
  pub count : x'.count ≡ x.count
  pub waiting : x.depth < 4096 → x'.waiting ≡ slice_set x.waiting x.depth (onward code r)
  pub depth : x.depth < 4096 → x'.depth ≡ x.depth + 1
  pub mode : r.base + (node_at code r.coming).over ≤ 65536 → r.height < 65536
      → x'.mode ≡ Begin r.coming r.base (r.base + (node_at code r.coming).over) (r.height + 1)

-- what the machine is about after an operation of the expression r at the place
abbrev pub mode_after : Code → Waiting → ℕ → Next → Mode
mode_after code r at Value = Return
mode_after code r at First = Begin r.coming r.base r.dest (r.height + 1)
mode_after code r at Second = Begin (node_at code r.coming).end r.base r.dest (r.height + 1)
mode_after code r at (Body n) = Begin n at r.dest (r.height + 1)

-- the operation of the node was performed
pub record Performed (code : Code) (node : Node) (r : Waiting) (m : Meaning) (x : Machine) (m' : Meaning) (x' : Machine) : Type 0 where
  pub next : Next
  pub effect : Effect m x.words r.base (r.base + node.over) r.dest node.op next m' x'.words
  pub mode : x'.mode ≡ mode_after code r (r.base + node.over) next
  pub waiting : x'.waiting ≡ x.waiting
  pub depth : x'.depth ≡ x.depth
  pub cells : x'.cells ≡ x.cells
  pub count : x'.count ≡ x.count

-- how many turns are left at most before an expression begins or the run has ended, where so many expressions wait
abbrev pub turns_left : Mode → ℕ → ℕ
turns_left (Begin n b d h) k = k + 2
turns_left Return k = k + 1
turns_left Done k = 0
turns_left (Halted y) k = 0

-- an expression is to begin
abbrev pub goes : Mode → Bool
goes (Begin n b d h) = true
goes Return = false
goes Done = false
goes (Halted y) = false
