-- Values in the words of a run: variables and parts done, each at its place.
use Rattle.std.specs.Prelude.{◌≡◌, ℕ, suc, ◌+◌, ◌<◌, ◌≤◌, Bool, true, cond, List, [], ◌∷◌, ◌++◌, length, drop, slice_index}
use Rattle.lfpl.specs.Syntax.{width}
use Rattle.lfpl.specs.Values.{Typed}
use Rattle.pool.specs.Pools.{Meaning}
use Rattle.store.specs.Layout.{Shows, footprint}

-- the value lies in the words from the place on, all of it below the limit
pub record Lying (m : Meaning) (ws : List ℕ) (top : ℕ) (x : Typed) (at : ℕ) : Type 0 where
  pub shows : Shows m x.type x.value ws at
  pub below : at + width x.type ≤ top

-- the cells that it holds there
abbrev pub cells_at : Meaning → List ℕ → Typed → ℕ → List ℕ
cells_at m ws x at = footprint m x.type x.value ws at

-- a test of the numbers from 1 on
abbrev pub shift : (ℕ → Bool) → ℕ → Bool
shift need i = need (suc i)

-- every number
abbrev pub all : ℕ → Bool
all i = true

-- each value whose number is needed lies at its place
abbrev pub Lies : Meaning → List ℕ → ℕ → (ℕ → Bool) → List Typed → List ℕ → Type 0
Lies m ws top need [] ats = Unit {0}
Lies m ws top need (x ∷ xs) ats = (need 0 ≡ true → Lying m ws top x (slice_index ats 0)) × Lies m ws top (shift need) xs (drop 1 ats)

-- the cells that those hold
abbrev pub cells_of : Meaning → List ℕ → (ℕ → Bool) → List Typed → List ℕ → List ℕ
cells_of m ws need [] ats = []
cells_of m ws need (x ∷ xs) ats = cond (need 0) (cells_at m ws x (slice_index ats 0)) [] ++ cells_of m ws (shift need) xs (drop 1 ats)

-- the places of values that lie one after another
abbrev pub places : ℕ → List Typed → List ℕ
places at [] = []
places at (x ∷ xs) = at ∷ places (at + width x.type) xs

-- places above a base
abbrev pub from : ℕ → List ℕ → List ℕ
from base [] = []
from base (p ∷ ps) = (base + p) ∷ from base ps

-- n words of xs from i on stand in ys from j on
abbrev pub Window : List ℕ → ℕ → List ℕ → ℕ → ℕ → Type 0
Window xs i ys j n = (k : ℕ) → k < n → slice_index ys (j + k) ≡ slice_index xs (i + k)

-- ys are the words xs but from the place on, where anything may stand
pub record Above (xs ys : List ℕ) (at : ℕ) : Type 0 where
  pub below : (i : ℕ) → i < at → slice_index ys i ≡ slice_index xs i
  pub long : length ys ≡ length xs
