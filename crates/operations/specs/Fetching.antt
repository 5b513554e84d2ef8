-- What reading a cell does to the words of a run.
use Rattle.std.specs.Prelude.{ℕ, List}
use Rattle.acts.specs.Places.{Window, Above}
use Rattle.pool.specs.Pools.{Meaning}
use Rattle.store.specs.Layout.{words_of}

-- the words from the place on begin with n words of the cell c
pub record Fetched (m : Meaning) (c : ℕ) (xs ys : List ℕ) (into n : ℕ) : Type 0 where
  pub above : Above xs ys into
  pub there : Window (words_of m c) 0 ys into n
