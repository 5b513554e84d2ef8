-- The machine that begins one expression at each step.
use Rattle.std.specs.Prelude.{ℕ, zero, suc, ◌+◌, List, [], ◌∷◌, ◌++◌}
use Rattle.std.proofs.Math.Option.{Option, none, some}
use Rattle.lfpl.specs.Syntax.{Head, Expr, Exprs, expr, end, ◌then◌, size, Fun, Program}
use Rattle.lfpl.specs.Typing.{fun_at}
use Rattle.lfpl.specs.Values.{Typed}
use Rattle.meaning.specs.Act.{Act, give, choose, enter, stuck, act}
use Rattle.meaning.specs.Mean.{Level, above, body_level, ground, Why, Limit, End, gives, halts, wrong}

-- an expression to begin: its number, the values of the variables in scope, and its level
pub record Item : Type 0 where
  pub number : ℕ
  pub term : Expr
  pub env : List Typed
  pub level : Level

-- An expression under way: the values of its parts done, and its parts to come. `coming` is the number of the first expression of its parts to come and its arms.
pub record Frame : Type 0 where
  pub number : ℕ
  pub head : Head
  pub env : List Typed
  pub level : Level
  pub values : List Typed
  pub coming : ℕ
  pub rest : Exprs
  pub arms : Exprs

-- an expression to begin, of its parts
abbrev pub item : ℕ → Expr → List Typed → Level → Item
item n e env l = record { number = n; term = e; env = env; level = l }

-- What comes of an expression: a value for whoever waits for it; or another expression in its place, an arm or a called body; or a part of it begins, and it waits;
-- or a halt; or it goes wrong.
pub data Outcome : Type 0 where
  hands : Typed → Outcome
  yields : Item → Outcome
  waits : Item → Frame → Outcome
  stops : Why → Outcome
  fails : Outcome

-- the arm at a place of arms that have numbers from c on
abbrev pub arm_at : Exprs → ℕ → ℕ → List Typed → Level → Outcome
arm_at end i c env l = fails
arm_at (q then qs) zero c env l = yields (item c q env l)
arm_at (q then qs) (suc i) c env l = arm_at qs i (c + size q) env l

-- the number of a function's body: the bodies stand one after another
abbrev pub body_number : List Fun → ℕ → ℕ
body_number [] f = 0
body_number (g ∷ fs) zero = 0
body_number (g ∷ fs) (suc f) = size g.body + body_number fs f

-- the body of the function f, to begin at a level
abbrev pub body : List Fun → ℕ → List Typed → Level → Item
body fs f xs l = item (body_number fs f) (fun_at fs f).body xs l

-- an expression that has begun, with all of its parts to come
abbrev pub begun : Expr → ℕ → List Typed → Level → Frame
begun (expr h ps qs) n env l = record { number = n; head = h; env = env; level = l; values = []; coming = suc n; rest = ps; arms = qs }

-- the expression when the part e has begun, and es are to come after it
abbrev pub passing : Frame → Expr → Exprs → Frame
passing k e es =
    record { number = k.number; head = k.head; env = k.env; level = k.level; values = k.values; coming = k.coming + size e; rest = es; arms = k.arms }

-- the expression when the part under way has given v
abbrev pub joined : Frame → Typed → Frame
joined k v =
    record { number = k.number; head = k.head; env = k.env; level = k.level; values = k.values ++ (v ∷ []); coming = k.coming; rest = k.rest; arms = k.arms }

-- a run's state: the expression to begin next and those that wait, innermost first; or its end
pub data State : Type 0 where
  going : Item → List Frame → State
  done : Typed → State
  halted : Why → State
  astray : State

-- the state that an end is
abbrev pub ended : End Typed → State
ended (gives v) = done v
ended (halts y) = halted y
ended wrong = astray

-- the state after an outcome over the waiting expressions K; `back` takes a value to them
abbrev pub landing : Outcome → List Frame → (Typed → State) → State
landing (hands v) K back = back v
landing (yields i) K back = going i K
landing (waits i k) K back = going i (k ∷ K)
landing (stops y) K back = halted y
landing fails K back = astray

-- a state and a count of steps, after n steps more
abbrev pub after : ℕ → State × ℕ → State × ℕ
after n (s, m) = (s, n + m)

module _ (fs : List Fun) where
  -- what an expression with no part to come does, where its arms have numbers from c on
  abbrev pub settle : Act → Exprs → ℕ → List Typed → Level → Outcome
  settle (give v) qs c env l = hands v
  settle (choose i xs) qs c env l = arm_at qs i c (env ++ xs) (above l xs)
  settle (enter f xs) qs c env l = yields (body fs f xs (body_level l xs))
  settle stuck qs c env l = fails

  -- the next part begins, or there is none
  abbrev pub proceed_with : Exprs → Frame → Outcome
  proceed_with end k = settle (act fs k.head k.env k.values) k.arms k.coming k.env k.level
  proceed_with (e then es) k = waits (item k.coming e k.env (above k.level k.values)) (passing k e es)

  -- an expression under way goes on
  abbrev pub proceed : Frame → Outcome
  proceed k = proceed_with k.rest k

  -- an expression begins, unless a limit forbids it
  abbrev pub begins_under : Option Why → Item → Outcome
  begins_under none i = proceed (begun i.term i.number i.env i.level)
  begins_under (some y) i = stops y

  -- A value comes back to the innermost waiting expression, which goes on with it; what that gives comes back to the next, and so on.
  abbrev pub return : List Frame → Typed → State
  return [] v = done v
  return (k ∷ K) v = landing (proceed (joined k v)) K (λ u. return K u)

module _ (p : Program) (L : Limit) where
  -- one step begins one expression
  abbrev pub step : Item → List Frame → State
  step i K = landing (begins_under p.functions (L i.level) i) K (λ u. return p.functions K u)

  -- at most n steps, and the count of those taken
  abbrev pub run : ℕ → State → State × ℕ
  run zero s = (s, 0)
  run (suc n) (going i K) = after 1 (run n (step i K))
  run (suc n) (done v) = (done v, 0)
  run (suc n) (halted y) = (halted y, 0)
  run (suc n) astray = (astray, 0)

-- a run of the function f begins with its body
abbrev pub start : Program → ℕ → List Typed → State
start p f xs = going (body p.functions f xs (ground xs)) []
