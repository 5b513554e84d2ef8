-- What building a value does to a pool and to the words that it is built in.
use Rattle.std.specs.Prelude.{◌≡◌, ℕ, ◌+◌, ◌<◌, ◌≤◌, ◌≢◌, List, ◌∷◌, Some, Ok, Err, Result, slice_index}
use Rattle.codec.specs.Reading.{Scan, done, refused}
use Rattle.codec.specs.declared.fault.Fault.{Fault}
use Rattle.codec.specs.declared.fault.Part.TheVariants.{Value}
use Rattle.lfpl.specs.Syntax.{Ty, width}
use Rattle.lfpl.specs.Values.{Val, charge}
use Rattle.pool.specs.Pools.{Meaning, held, limit}
use Rattle.store.specs.Layout.{Shows, footprint, used, occ, words_of}
use Rattle.store.specs.Spelling.{Spells}

-- The cell c, which was not taken, is taken and holds the words; no other cell is altered.
pub record Fresh (m : Meaning) (ws : List ℕ) (c : ℕ) (m' : Meaning) : Type 0 where
  pub new : used m c ≡ 0
  pub holds : held m' c ≡ Some ws
  pub others : (k : ℕ) → k ≢ c → held m' k ≡ held m k
  pub count : m'.free + 1 ≡ m.free
  pub bound : limit m' ≡ limit m

-- New cells, these, hold a value, each once and none of them taken before: the cells taken are those taken before and these. Every cell taken before keeps its
-- words, and the count falls by the value's charge.
pub record Holds (m : Meaning) (xs : List ℕ) (v : Val) (m' : Meaning) : Type 0 where
  pub cells : (c : ℕ) → occ c xs + used m c ≡ used m' c
  pub keeps : (c : ℕ) → used m c ≡ 1 → held m' c ≡ held m c
  pub count : m'.free + charge v ≡ m.free
  pub bound : limit m' ≡ limit m

-- The value is read from the words, from o on, and from new cells that hold it; the words beside are as they were.
pub record Built (m : Meaning) (ws : List ℕ) (A : Ty) (v : Val) (o : ℕ) (m' : Meaning) (ws' : List ℕ) : Type 0 where
  pub shows : Shows m' A v ws' o
  pub holds : Holds m (footprint m' A v ws' o) v m'
  pub before : (i : ℕ) → i < o → slice_index ws' i ≡ slice_index ws i
  pub after : (i : ℕ) → o + width A ≤ i → slice_index ws' i ≡ slice_index ws i

-- the same in a cell of its own
pub record Boxed (m : Meaning) (A : Ty) (v : Val) (c : ℕ) (m' : Meaning) : Type 0 where
  pub taken : used m' c ≡ 1
  pub shows : Shows m' A v (words_of m' c) 0
  pub cells : (k : ℕ) → occ k (c ∷ footprint m' A v (words_of m' c) 0) + used m k ≡ used m' k
  pub keeps : (k : ℕ) → used m k ≡ 1 → held m' k ≡ held m k
  pub count : m'.free + (1 + charge v) ≡ m.free
  pub bound : limit m' ≡ limit m

-- whatever value the bytes spell from `at` on, where its cells are free it is built, and the answer is the place after it
abbrev pub Builds : List ℕ → Ty → ℕ → ℕ → Meaning → List ℕ → ℕ → Meaning → List ℕ → Type 0
Builds bs A at r m ws o m' ws' = (v : Val) (q : ℕ) → Spells bs A v at q → charge v ≤ m.free → (r ≡ q) × Built m ws A v o m' ws'

-- the same in a cell of its own: the answer is the cell and the place after the value
abbrev pub Boxes : List ℕ → Ty → ℕ → ℕ × ℕ → Meaning → Meaning → Type 0
Boxes bs A at r m m' = (v : Val) (q : ℕ) → Spells bs A v at q → charge v < m.free → (r.1 ≡ q) × Boxed m A v r.0 m'

-- What putting answers and leaves, by what the bytes decode to: the value, read from the words answered and from new cells; or the fault, and nothing is
-- altered.
abbrev pub Puts : Scan (Val × ℕ) → Ty → Meaning → Result (List ℕ) Fault → Meaning → Type 0
Puts (done r q) A m (Ok ws) m' = Shows m' A r.0 ws 0 × Holds m (footprint m' A r.0 ws 0) r.0 m'
Puts (done r q) A m (Err f) m' = ⊥
Puts (refused why q) A m (Ok ws) m' = ⊥
Puts (refused why q) A m (Err f) m' = (f ≡ record { refusal = why; place = q; part = Value }) × (m' ≡ m)
