-- The theorem over lists of calls: what holds of a programmer before the first call and after each.
use Rattle.std.specs.Prelude.{◌≡◌, ℕ, ◌+◌, ◌-◌, ◌≤◌, min, List, [], ◌∷◌, ◌++◌, length, take, Some, None, Ok, Err, Option, Result}
use Rattle.codec.specs.declared.fault.Fault.{Fault}
use Rattle.pool.specs.Pools.{Meaning, held}
use Rattle.store.specs.Layout.{used, occ}
use Rattle.programmer.specs.Ledger.{Ledger, opened, types_of, charges, Call, adopt, put, show, spare, empty, Answer, granted, shown, spares, refuses, turn}
use Rattle.programmer.specs.Agreement.{View, view, Tabled, Stand, Runs, cells_held, Agrees, Follows, Same}
use Rattle.programmer.specs.declared.Programmer.{Programmer}
use Rattle.programmer.specs.declared.play.Answer as listed
use Rattle.programmer.specs.declared.play.Answer.TheVariants as answer
use Rattle.programmer.specs.declared.play.Call as code
use Rattle.programmer.specs.declared.play.Call.TheVariants as call
use Rattle.programmer.specs.declared.play.Making.{Making}

-- The theorem. What holds of a programmer that was made over a pool that meant `made`, whose pool means m now, where the calls so far have led to the ledger l.
pub record Upheld (made : Meaning) (l : Ledger) (m : Meaning) (p : View) : Type 0 where
  -- (a) Cells are conserved: the spare ones (the cells counted less what the pool's count fell) and the charges of all values held are together the cells counted
  -- at the making.
  pub conserved : (min 512 made.free - (made.free - m.free)) + charges l ≡ min 512 made.free
  -- Values hold as many cells as they are charged for.
  pub charged : length (cells_held m l p) ≡ charges l
  -- No cell is held twice, by one value or by two.
  pub once : (c : ℕ) → occ c (cells_held m l p) ≤ 1
  -- A cell that is held is taken, and was not at the making; and every cell taken since the making is held.
  pub since : (c : ℕ) → used made c ≡ 0 → used m c ≡ occ c (cells_held m l p)
  -- Cells taken before the making are held by none and keep their words.
  pub before : (c : ℕ) → used made c ≡ 1 → (occ c (cells_held m l p) ≡ 0) × (held m c ≡ held made c)
  -- (b) The shelves that are filled, their types and their values, read from the pool's own words, are the ledger's; so are box number, table and run.
  pub shelves : Stand m (types_of l) l.shelves p.shelves
  pub sixteen : length l.shelves ≡ 16
  pub box : p.box ≡ l.box
  pub table : Tabled l.table p.table
  pub run : Runs l.run p.run

-- ---- lists of calls

-- A call of a list. The areas of its shows are cut from one area of so many bytes, which is lent for all of them.
abbrev pub asked : ℕ → code.Call → Call
asked room (call.Adopt bytes) = adopt bytes.now
asked room (call.Put i t bytes) = put i t bytes.now
asked room (call.Show i n) = show i (min n room)
asked room call.Spare = spare
asked room (call.Empty i) = empty i

-- what an answer tells, where the bytes shown come first in the area
abbrev pub tells : Result listed.Answer Fault → List ℕ → Answer
tells (Ok answer.Granted) area = granted
tells (Ok (answer.Shown n)) area = shown (take n area)
tells (Ok (answer.Spare n)) area = spares n
tells (Err f) area = refuses f

-- how many bytes an answer says are shown
abbrev pub shown_by : listed.Answer → ℕ
shown_by answer.Granted = 0
shown_by (answer.Shown n) = n
shown_by (answer.Spare n) = 0

-- what a call that is granted or refused answers in a list
abbrev pub answer_of_result : Result (Unit {0}) Fault → Result listed.Answer Fault
answer_of_result (Ok _) = Ok answer.Granted
answer_of_result (Err f) = Err f

-- the ledger after a list of calls
abbrev pub ledger_after : ℕ → List code.Call → Ledger → Ledger
ledger_after room [] l = l
ledger_after room (c ∷ cs) l = ledger_after room cs (turn (asked room c) l).1

module _ {P : Type 0} (means : P → Meaning) where
  -- a refusal and a question alter nothing
  abbrev pub Quiet : Answer → Programmer P → Programmer P → Type 0
  Quiet granted p q = Unit {0}
  Quiet (shown x) p q = Same means p q
  Quiet (spares n) p q = Same means p q
  Quiet (refuses f) p q = Same means p q

  -- what a call that answers a promises of any programmer: it follows every ledger that the programmer agrees with
  pub record Acts (c : Call) (a : Answer) (p q : Programmer P) : Type 0 where
    pub keeps : (made : Meaning) (l : Ledger) → Agrees made l (means p.pool) (view p) → Follows c (λ b. b ≡ a) made l (means p.pool) (view p) (means q.pool) (view q)
    pub quiet : Quiet a p q

  -- The calls of the list, one after another, have led to the programmer, from one that agrees with the ledger at the start. Before the first call and after each
  -- all is upheld by the ledger of the calls so far; each answer is the ledger's; each call did what it promises of any programmer.
  pub data History (made : Meaning) (start : Ledger) (room : ℕ) : List code.Call → Programmer P → Type 0 where
    begun : (p : Programmer P) → Agrees made start (means p.pool) (view p) → Upheld made start (means p.pool) (view p) → History made start room [] p
    called : (cs : List code.Call) (p : Programmer P) (c : code.Call) (a : Answer) (q : Programmer P) → History made start room cs p
        → Acts (asked room c) a p q → Follows (asked room c) (λ b. b ≡ a) made (ledger_after room cs start) (means p.pool) (view p) (means q.pool) (view q)
        → Upheld made (ledger_after room (cs ++ (c ∷ [])) start) (means q.pool) (view q) → History made start room (cs ++ (c ∷ [])) q

  -- The answer heard after a list of calls, with the bytes shown, is the ledger's to the last of them; before the first call there is none.
  abbrev pub Heard : ℕ → Ledger → List code.Call → Option (Result listed.Answer Fault) → List ℕ → Type 0
  Heard room start calls None bytes = calls ≡ []
  Heard room start calls (Some a) bytes =
      (cs : List code.Call) × (c : code.Call) × (calls ≡ cs ++ (c ∷ [])) × (tells a bytes ≡ (turn (asked room c) (ledger_after room cs start)).0)

  -- What a listener may rely on: all is upheld by the ledger of the calls so far, for the pool as it was at the making with so many free cells, and the answer that
  -- is heard is the ledger's.
  pub record After (m : Making) (calls : List code.Call) (a : Option (Result listed.Answer Fault)) (bytes : List ℕ) (p : Programmer P) : Type 0 where
    pub made : Meaning
    pub counted : made.free ≡ m.cells
    pub upheld : Upheld made (ledger_after m.room calls (opened m.cells m.box_number)) (means p.pool) (view p)
    pub heard : Heard m.room (opened m.cells m.box_number) calls a bytes
