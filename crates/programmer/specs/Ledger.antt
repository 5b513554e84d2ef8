-- The ledger: what a programmer's calls answer and what they leave, kept from the cells counted at the making, the box number and the calls' arguments alone.
use Rattle.std.specs.Prelude.{ℕ, suc, ◌+◌, ◌-◌, min, Bool, true, false, cond, List, [], ◌∷◌, length, replicate, is_some, Some, None, Ok, Err, Option, Result, nat_le, nat_lt, slice_index_or, slice_set}
use Rattle.codec.specs.Reading.{Scan, done, refused}
use Rattle.codec.specs.declared.fault.Fault.{Fault}
use Rattle.codec.specs.declared.fault.Part.TheVariants as part
use Rattle.codec.specs.declared.fault.Refusal.{Refusal}
use Rattle.codec.specs.declared.fault.Refusal.TheVariants.{NoSuchShelf, NoSuchTypeOrFunction, ShelfFilled, ShelfEmpty, RunStands, AreaTooShort, ShelfFilledAtAdopt}
use Rattle.lfpl.specs.Admission.{admission}
use Rattle.lfpl.specs.Syntax.{Ty, Program}
use Rattle.lfpl.specs.Typing.{type_at}
use Rattle.lfpl.specs.Values.{Val, charge, write}
use Rattle.store.specs.Decoding.{decode}

-- what is on a shelf: nothing, or a value with the number of its type
pub data Content : Type 0 where
  nothing : Content
  value : (type : ℕ) → Val → Content

-- A run of a function: its number, its arguments, the steps taken, and the result once it is done.
pub record Run : Type 0 where
  pub function : ℕ
  pub arguments : List Val
  pub steps : ℕ
  pub result : Option Val

-- The ledger: the cells counted at the making, the box number, the program of the table adopted last, the sixteen shelves, and the run that stands. (No call
-- starts a run yet.)
pub record Ledger : Type 0 where
  pub total : ℕ
  pub box : ℕ
  pub table : Option Program
  pub shelves : List Content
  pub run : Option Run

-- at the making, over a pool with so many free cells: at most 512 are counted, and there is no table, no filled shelf and no run
abbrev pub opened : ℕ → ℕ → Ledger
opened free box = record { total = min 512 free; box = box; table = None; shelves = replicate 16 nothing; run = None }

-- the ledger with another table
abbrev pub with_table : Ledger → Program → Ledger
with_table l p = record { total = l.total; box = l.box; table = Some p; shelves = l.shelves; run = l.run }

-- the ledger with other content on the shelf i
abbrev pub with_shelf : Ledger → ℕ → Content → Ledger
with_shelf l i x = record { total = l.total; box = l.box; table = l.table; shelves = slice_set l.shelves i x; run = l.run }

-- the types of a table, by number; none without a table
abbrev pub types_in : Option Program → List Ty
types_in None = []
types_in (Some p) = p.types

abbrev pub types_of : Ledger → List Ty
types_of l = types_in l.table

-- what is on the shelf i
abbrev pub shelf : Ledger → ℕ → Content
shelf l i = slice_index_or l.shelves i nothing

-- ---- charges

-- the cells that a shelf's content is charged for
abbrev pub cost : Content → ℕ
cost nothing = 0
cost (value t v) = charge v

abbrev pub costs : List Content → ℕ
costs [] = 0
costs (x ∷ xs) = cost x + costs xs

abbrev pub charge_all : List Val → ℕ
charge_all [] = 0
charge_all (v ∷ vs) = charge v + charge_all vs

-- a going run is charged for its arguments, a done one for its result
abbrev pub run_cost : Option Val → List Val → ℕ
run_cost None arguments = charge_all arguments
run_cost (Some v) arguments = charge v

abbrev pub cost_of_run : Option Run → ℕ
cost_of_run None = 0
cost_of_run (Some r) = run_cost r.result r.arguments

-- the charges that stand
abbrev pub charges : Ledger → ℕ
charges l = costs l.shelves + cost_of_run l.run

-- the cells that are spare
abbrev pub spare_in : Ledger → ℕ
spare_in l = l.total - charges l

-- ---- calls and answers

-- The calls. A show is handed an area of so many bytes.
pub data Call : Type 0 where
  adopt : (bytes : List ℕ) → Call
  put : (number type : ℕ) → (bytes : List ℕ) → Call
  show : (number room : ℕ) → Call
  spare : Call
  empty : (number : ℕ) → Call

-- The answers: granted with nothing to tell, the bytes shown, the count of spare cells, or a refusal.
pub data Answer : Type 0 where
  granted : Answer
  shown : (bytes : List ℕ) → Answer
  spares : ℕ → Answer
  refuses : Fault → Answer

-- an answer, and the ledger after it
abbrev pub Turn : Type 0
Turn = Answer × Ledger

-- a refusal of the call itself, at a place
abbrev pub fault : Refusal → ℕ → Fault
fault why place = record { refusal = why; place = place; part = part.Programmer }

-- The first of the checks that fails refuses the call, and the ledger is left as it was; where none does, the turn is taken.
abbrev pub unless : List (Bool × Fault) → Ledger → Turn → Turn
unless [] l t = t
unless (c ∷ cs) l t = cond c.0 (refuses c.1, l) (unless cs l t)

abbrev pub is_nothing : Content → Bool
is_nothing nothing = true
is_nothing (value t v) = false

abbrev pub is_filled : Content → Bool
is_filled nothing = false
is_filled (value t v) = true

-- the number of the lowest filled shelf; how many shelves there are, where none is filled
abbrev pub lowest : List Content → ℕ
lowest [] = 0
lowest (nothing ∷ xs) = suc (lowest xs)
lowest (value t v ∷ xs) = 0

-- the bytes of a shelf's content
abbrev pub bytes_of : Content → List ℕ
bytes_of nothing = []
bytes_of (value t v) = write v

-- there is no shelf of the number
abbrev pub no_shelf : ℕ → Bool × Fault
no_shelf i = (nat_le 16 i, fault NoSuchShelf 0)

-- ---- what each call checks, in order

abbrev pub adopt_checks : Ledger → List (Bool × Fault)
adopt_checks l = (is_some l.run, fault RunStands 0) ∷ (nat_lt (lowest l.shelves) 16, fault ShelfFilledAtAdopt (lowest l.shelves)) ∷ []

abbrev pub put_checks : ℕ → ℕ → Ledger → List (Bool × Fault)
put_checks i t l = no_shelf i ∷ (is_filled (shelf l i), fault ShelfFilled 0) ∷ (nat_le (length (types_of l)) t, fault NoSuchTypeOrFunction 0) ∷ []

abbrev pub show_checks : ℕ → ℕ → Ledger → List (Bool × Fault)
show_checks i room l = no_shelf i ∷ (is_nothing (shelf l i), fault ShelfEmpty 0) ∷ (nat_lt room (length (bytes_of (shelf l i))), fault AreaTooShort 0) ∷ []

abbrev pub empty_checks : ℕ → Ledger → List (Bool × Fault)
empty_checks i l = no_shelf i ∷ (is_nothing (shelf l i), fault ShelfEmpty 0) ∷ []

-- ---- what each call does

-- the table's bytes are admitted, or refused as the judgement of tables says
abbrev pub adopted : Result Program Fault → Ledger → Turn
adopted (Ok p) l = (granted, with_table l p)
adopted (Err f) l = (refuses f, l)

-- the value that the bytes spell is put on the shelf, or the bytes are refused
abbrev pub filled : Scan (Val × ℕ) → ℕ → ℕ → Ledger → Turn
filled (done r q) i t l = (granted, with_shelf l i (value t r.0))
filled (refused why q) i t l = (refuses (record { refusal = why; place = q; part = part.Value }), l)

-- what a call answers, and the ledger that it leaves
abbrev pub turn : Call → Ledger → Turn
turn (adopt bs) l = unless (adopt_checks l) l (adopted (admission bs) l)
turn (put i t bs) l = unless (put_checks i t l) l (filled (decode bs (type_at (types_of l) t) (spare_in l)) i t l)
turn (show i room) l = unless (show_checks i room l) l (shown (bytes_of (shelf l i)), l)
turn spare l = (spares (spare_in l), l)
turn (empty i) l = unless (empty_checks i l) l (granted, with_shelf l i nothing)
