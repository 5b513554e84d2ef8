-- When a programmer agrees with a ledger, and what each call keeps of that.
use Rattle.std.specs.Prelude.{◌≡◌, ℕ, ◌+◌, ◌<◌, ◌≤◌, min, cond, List, [], ◌∷◌, ◌++◌, length, drop, Some, None, Ok, Err, Option, Result, nat_le, slice_index_or}
use Rattle.codec.specs.declared.fault.Fault.{Fault}
use Rattle.codec.specs.declared.fault.Refusal.TheVariants.{NoSuchShelf, ShelfFilled, ShelfEmpty}
use Rattle.lfpl.specs.Syntax.{Ty, Program}
use Rattle.lfpl.specs.Typing.{type_at}
use Rattle.pool.specs.Pools.{Meaning, held, limit}
use Rattle.judge.specs.Admitting.{Carries}
use Rattle.judge.specs.declared.table.Table.{Table}
use Rattle.store.specs.Layout.{Shows, footprint, used, occ}
use Rattle.programmer.specs.Shelved.{table_of}
use Rattle.programmer.specs.Ledger.{Content, nothing, value, Run, Ledger, types_of, shelf, cost_of_run, charges, Call, adopt, put, show, spare, empty, Answer, granted, shown, spares, refuses, fault, turn}
use Rattle.programmer.specs.declared.Programmer.{Programmer}
use Rattle.programmer.specs.declared.run as running
use Rattle.programmer.specs.declared.shelf.Stored.{Stored}

-- ---- what can be asked of a programmer

-- A programmer, its pool apart: the box number, the table, the pool's free cells at the making and how many of them are counted, the shelves and the run.
pub record View : Type 0 where
  pub box : ℕ
  pub table : Option Table
  pub made : ℕ
  pub total : ℕ
  pub shelves : List (Option Stored)
  pub run : Option running.Run.Run

abbrev pub view : {P : Type 0} → Programmer P → View
view p = record { box = p.box_number; table = table_of p.shelves.table; made = p.made; total = p.total; shelves = p.shelves.places; run = p.run }

-- ---- agreement

-- the table that was judged carries the program
abbrev pub Tabled : Option Program → Option Table → Type 0
Tabled None None = Unit {0}
Tabled None (Some t) = ⊥
Tabled (Some p) None = ⊥
Tabled (Some p) (Some t) = Carries t p

-- the shelf has the content: a value of a listed type, read by the layout from the shelf's words on through the pool's
abbrev pub Stands : Meaning → List Ty → Content → Option Stored → Type 0
Stands m ts nothing None = Unit {0}
Stands m ts nothing (Some s) = ⊥
Stands m ts (value t v) None = ⊥
Stands m ts (value t v) (Some s) = (s.type_number ≡ t) × (t < length ts) × Shows m (type_at ts t) v s.words 0

-- each shelf has its content
abbrev pub Stand : Meaning → List Ty → List Content → List (Option Stored) → Type 0
Stand m ts [] [] = Unit {0}
Stand m ts [] (s ∷ ss) = ⊥
Stand m ts (x ∷ xs) [] = ⊥
Stand m ts (x ∷ xs) (s ∷ ss) = Stands m ts x s × Stand m ts xs ss

-- the cells that a shelf holds
abbrev pub cells_on : Meaning → List Ty → Content → Option Stored → List ℕ
cells_on m ts nothing s = []
cells_on m ts (value t v) None = []
cells_on m ts (value t v) (Some s) = footprint m (type_at ts t) v s.words 0

-- the cells that the shelves hold
abbrev pub cells_on_all : Meaning → List Ty → List Content → List (Option Stored) → List ℕ
cells_on_all m ts [] ss = []
cells_on_all m ts (x ∷ xs) [] = []
cells_on_all m ts (x ∷ xs) (s ∷ ss) = cells_on m ts x s ++ cells_on_all m ts xs ss

-- the cells that a run holds
abbrev pub cells_of_run : Option running.Run.Run → List ℕ
cells_of_run None = []
cells_of_run (Some r) = r.cells.items

-- a run stands where the ledger has one, and holds as many cells as it is charged for
abbrev pub Runs : Option Run → Option running.Run.Run → Type 0
Runs None None = Unit {0}
Runs None (Some s) = ⊥
Runs (Some r) None = ⊥
Runs (Some r) (Some s) = length (cells_of_run (Some s)) ≡ cost_of_run (Some r)

-- the cells that are held, by a shelf or by the run
abbrev pub cells_held : Meaning → Ledger → View → List ℕ
cells_held m l p = cells_on_all m (types_of l) l.shelves p.shelves ++ cells_of_run p.run

-- A programmer so viewed, whose pool means m, agrees with the ledger, where it was made over a pool that meant `made`.
pub record Agrees (made : Meaning) (l : Ledger) (m : Meaning) (p : View) : Type 0 where
  pub box : p.box ≡ l.box
  pub made_is : p.made ≡ made.free
  pub total : p.total ≡ l.total
  pub least : l.total ≡ min 512 made.free
  pub table : Tabled l.table p.table
  pub sixteen : length l.shelves ≡ 16
  pub shelves : Stand m (types_of l) l.shelves p.shelves
  pub run : Runs l.run p.run
  -- by counting: a cell is taken that was taken at the making or that is held since, and only one of these, once
  pub cells : (c : ℕ) → used m c ≡ used made c + occ c (cells_held m l p)
  -- cells taken at the making keep their words
  pub earlier : (c : ℕ) → used made c ≡ 1 → held m c ≡ held made c
  -- the pool's count fell by the charges, which are within the cells counted
  pub count : m.free + charges l ≡ made.free
  pub within : charges l ≤ l.total
  pub bound : limit m ≡ limit made

-- ---- what a call promises

-- the pool m' is the pool m with the cells xs taken besides: each was free, every cell that m has keeps its words, and the count is less by as many
pub record Besides (m : Meaning) (xs : List ℕ) (m' : Meaning) : Type 0 where
  pub cells : (c : ℕ) → used m' c ≡ used m c + occ c xs
  pub keeps : (c : ℕ) → used m c ≡ 1 → held m' c ≡ held m c
  pub count : m'.free + length xs ≡ m.free
  pub bound : limit m' ≡ limit m

-- the cells that the shelf i holds
abbrev pub cells_at : Meaning → Ledger → View → ℕ → List ℕ
cells_at m l p i = cells_on m (types_of l) (shelf l i) (slice_index_or p.shelves i None)

-- What a call does to the pool: a put that is granted takes the cells of the value then on the shelf, an empty that is granted gives back those of the value that
-- was there, and nothing else changes.
abbrev pub Pooled : Call → Answer → Ledger → Meaning → View → Ledger → Meaning → View → Type 0
Pooled (put i t bs) granted l m p l' m' q = Besides m (cells_at m' l' q i) m'
Pooled (put i t bs) (shown x) l m p l' m' q = m' ≡ m
Pooled (put i t bs) (spares n) l m p l' m' q = m' ≡ m
Pooled (put i t bs) (refuses f) l m p l' m' q = m' ≡ m
Pooled (empty i) granted l m p l' m' q = Besides m' (cells_at m l p i) m
Pooled (empty i) (shown x) l m p l' m' q = m' ≡ m
Pooled (empty i) (spares n) l m p l' m' q = m' ≡ m
Pooled (empty i) (refuses f) l m p l' m' q = m' ≡ m
Pooled (adopt bs) a l m p l' m' q = m' ≡ m
Pooled (show i n) a l m p l' m' q = m' ≡ m
Pooled spare a l m p l' m' q = m' ≡ m

-- The call, made of a programmer that agrees with the ledger, is answered as in the ledger, where T says what each answer of the ledger's means to the caller;
-- the programmer agrees with the ledger's next, and the pool changed as the call says.
pub record Follows (c : Call) (T : Answer → Type 0) (made : Meaning) (l : Ledger) (m : Meaning) (p : View) (m' : Meaning) (q : View) : Type 0 where
  pub told : T (turn c l).0
  pub agrees : Agrees made (turn c l).1 m' q
  pub pooled : Pooled c (turn c l).0 l m p (turn c l).1 m' q

module _ {P : Type 0} (means : P → Meaning) where
  -- the call follows every ledger that the programmer agrees with
  abbrev pub Keeps : Call → (Answer → Type 0) → Programmer P → Programmer P → Type 0
  Keeps c T p q =
      (made : Meaning) (l : Ledger) → Agrees made l (means p.pool) (view p) → Follows c T made l (means p.pool) (view p) (means q.pool) (view q)

  -- nothing that can be asked of the programmer or its pool has altered
  abbrev pub Same : Programmer P → Programmer P → Type 0
  Same p q = (means q.pool ≡ means p.pool) × (view q ≡ view p)

  -- refused, nothing has altered
  abbrev pub Still : Result (Unit {0}) Fault → Programmer P → Programmer P → Type 0
  Still (Ok _) p q = Unit {0}
  Still (Err f) p q = Same p q

-- what an answer of the ledger's means to who put or emptied a shelf or adopted a table
abbrev pub Plainly : Result (Unit {0}) Fault → Answer → Type 0
Plainly (Ok _) a = a ≡ granted
Plainly (Err f) a = a ≡ refuses f

-- and to who was shown a value in an area: its bytes come first there, their count is answered, and the rest is left; refused, all of it is left
abbrev pub Shown : Result ℕ Fault → List ℕ → List ℕ → Answer → Type 0
Shown (Ok n) area area' a = (bytes : List ℕ) × (a ≡ shown bytes) × (n ≡ length bytes) × (area' ≡ bytes ++ drop (length bytes) area)
Shown (Err f) area area' a = (a ≡ refuses f) × (area' ≡ area)

-- refused, the area is left
abbrev pub Left : Result ℕ Fault → List ℕ → List ℕ → Type 0
Left (Ok n) area area' = Unit {0}
Left (Err f) area area' = area' ≡ area

-- ---- what the code finds

-- the value on the shelf, or the refusal where there is none
abbrev pub stored_on : Option Stored → Result Stored Fault
stored_on None = Err (fault ShelfEmpty 0)
stored_on (Some s) = Ok s

abbrev pub looked_at : List (Option Stored) → ℕ → Result Stored Fault
looked_at ss i = cond (nat_le 16 i) (Err (fault NoSuchShelf 0)) (stored_on (slice_index_or ss i None))

-- that the shelf is free for a value, or the refusal
abbrev pub free_on : Option Stored → Result (Unit {0}) Fault
free_on None = Ok tt
free_on (Some s) = Err (fault ShelfFilled 0)

abbrev pub vacant_at : List (Option Stored) → ℕ → Result (Unit {0}) Fault
vacant_at ss i = cond (nat_le 16 i) (Err (fault NoSuchShelf 0)) (free_on (slice_index_or ss i None))
