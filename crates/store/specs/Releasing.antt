-- What giving a value's cells back does to a pool.
use Rattle.std.specs.Prelude.{◌≡◌, ℕ, ◌+◌, ◌≤◌, List, length}
use Rattle.lfpl.specs.Syntax.{Ty}
use Rattle.lfpl.specs.Values.{Val, charge}
use Rattle.pool.specs.Pools.{Meaning, held, limit}
use Rattle.store.specs.Layout.{Shows, footprint, used, occ}

-- The cells xs, which were taken, are free, and the others are as they were; the count rises by as many as they are.
pub record Released (m : Meaning) (xs : List ℕ) (m' : Meaning) : Type 0 where
  pub cells : (c : ℕ) → used m' c + occ c xs ≡ used m c
  pub keeps : (c : ℕ) → used m' c ≡ 1 → held m' c ≡ held m c
  pub count : m'.free ≡ m.free + length xs
  pub bound : limit m' ≡ limit m

-- whatever value of at most so many cells, each held once, the words show: its cells are given back
abbrev pub Releases : Meaning → Ty → List ℕ → ℕ → ℕ → Meaning → Type 0
Releases m A ws o most m' =
    (v : Val) → Shows m A v ws o → charge v ≤ most → ((c : ℕ) → occ c (footprint m A v ws o) ≤ 1) → Released m (footprint m A v ws o) m'
