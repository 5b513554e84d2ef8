-- How a run is loaded with its arguments, and what its end leaves of its cells.
use Rattle.std.specs.Prelude.{◌≡◌, ℕ, ◌+◌, List, length}
use Rattle.lfpl.specs.Syntax.{Ty}
use Rattle.lfpl.specs.Values.{Typed, Val, charge}
use Rattle.meaning.specs.Mean.{widths}
use Rattle.pool.specs.Pools.{Meaning, held, limit}
use Rattle.store.specs.Layout.{Shows, footprint, occ, used}
use Rattle.acts.specs.Places.{Lies, cells_of, places, all}
use Rattle.machine.specs.Enacting.{own}
use Rattle.machine.specs.declared.Machine.{Machine}

-- The arguments xs are loaded: they lie one after another from the first word on, and the machine's cells are theirs.
pub record Loading (m : Meaning) (x : Machine) (xs : List Typed) : Type 0 where
  pub words_long : length x.words ≡ 8288
  pub waiting_long : length x.waiting ≡ 4096
  pub cells_long : length x.cells ≡ 512
  pub count : length (own x) ≡ x.count
  pub lie : Lies m x.words (widths xs) all xs (places 0 xs)
  pub cells : own x ≡ cells_of m x.words all xs (places 0 xs)
  pub loaded_is : x.loaded ≡ widths xs

-- A run whose result is v, of the type R, has ended: the words ws show it; of the run's cells `mine` those that it holds are kept and the others are free; nothing
-- else is altered.
pub record Ended (m : Meaning) (mine : List ℕ) (R : Ty) (v : Val) (ws : List ℕ) (m' : Meaning) : Type 0 where
  pub shows : Shows m' R v ws 0
  pub cells : (c : ℕ) → used m' c + occ c mine ≡ used m c + occ c (footprint m' R v ws 0)
  pub keeps : (c : ℕ) → used m' c ≡ 1 → held m' c ≡ held m c
  pub count : m'.free + charge v ≡ m.free + length mine
  pub bound : limit m' ≡ limit m
