-- Cells in a list of words: each is a mark, 0 while the cell is free, and then its sixteen words.
use Rattle.std.specs.Prelude.{◌≡◌, ℕ, ◌+◌, ◌-◌, ◌*◌, ◌/◌, ◌<◌, ◌≤◌, min, Bool, true, false, cond, not, List, map, length, take, drop, is_some, Some, None, count_by, Option, MatchOption, ◌==◌, slice_index}
use Rattle.std.specs.List.{range_with_len}
use Rattle.std.specs.Simd.{first_chunks}
use Rattle.pool.specs.Pools.{Cell, Meaning, is_taken}

-- how many cells the words make: one for each seventeen, at most 512
abbrev pub cells_of : List ℕ → ℕ
cells_of ws = min 512 (length ws / 17)

-- the mark of the cell at place i, from 0
abbrev pub mark_of : List ℕ → ℕ → ℕ
mark_of ws i = slice_index ws (17 * i)

-- the cell at place i
abbrev pub cell_of : List ℕ → ℕ → Cell
cell_of ws i = cond (mark_of ws i == 0) None (Some (take 16 (drop (17 * i + 1) ws)))

-- all cells in order
abbrev pub in_words : List ℕ → List Cell
in_words ws = map (cell_of ws) (range_with_len 0 (cells_of ws))

-- whether a cell is not taken
abbrev pub is_free : Cell → Bool
is_free c = not (is_some c)

-- the words as a pool: every cell that is not taken is free
unfoldable pub words_mean : List ℕ → Meaning
words_mean ws = record { cells = in_words ws; free = count_by is_free (in_words ws) }

-- the words that belong to no cell
abbrev pub leftover : List ℕ → List ℕ
leftover ws = drop (17 * cells_of ws) ws

-- the cells as they lie, each a mark and sixteen words
abbrev pub cells_in : List ℕ → List (List ℕ)
cells_in ws = first_chunks 17 (cells_of ws) ws

-- whether a cell that lies there is marked as free
abbrev pub unmarked : List ℕ → Bool
unmarked c = slice_index c 0 == 0

-- r is where the mark of the taken cell n stands; none if n is not taken
pub record Placed (ws : List ℕ) (n : ℕ) (r : Option ℕ) : Type 0 where
  pub cases : MatchOption r (is_taken (words_mean ws) n ≡ false) (λ at. (at ≡ 17 * (n - 1)) × (1 ≤ n) × (n - 1 < cells_of ws) × (at + 17 ≤ length ws) × (is_taken (words_mean ws) n ≡ true))

-- r is the place of a free cell; none if there is none
pub record Found (ws : List ℕ) (r : Option ℕ) : Type 0 where
  pub cases : MatchOption r ((words_mean ws).free ≡ 0) (λ i. (i < cells_of ws) × (17 * i + 17 ≤ length ws) × (mark_of ws i ≡ 0))
