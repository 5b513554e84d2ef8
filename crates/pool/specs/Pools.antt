-- A pool of cells: what it means, what makes that lawful, and what each call does to it.
use Rattle.std.specs.Prelude.{◌≡◌, ℕ, ◌+◌, ◌-◌, ◌<◌, ◌≤◌, min, Bool, cond, ◌&&◌, List, [], ◌∷◌, ◌++◌, length, replicate, is_some, Some, None, count_by, Option, MatchOption, nat_le, nat_lt, slice_index, slice_index_or, slice_set}
use Rattle.std.specs.Option.{unwrap_or}
use Rattle.std.specs.List.{AllByRecursion}

-- a cell: its words while it is taken, nothing while it is not
abbrev pub Cell : Type 0
Cell = Option (List ℕ)

-- what a pool means: the cells from number 1 on, in order, and the count of free cells
pub record Meaning : Type 0 where
  pub cells : List Cell
  pub free : ℕ

-- the bound: cell numbers run from 1 to it
abbrev pub limit : Meaning → ℕ
limit m = length m.cells

-- how many cells are taken
abbrev pub taken : Meaning → ℕ
taken m = count_by is_some m.cells

-- what the cell of number n holds; nothing at 0 and past the bound, where no cell is
abbrev pub held : Meaning → ℕ → Cell
held m n = slice_index_or (None ∷ m.cells) n None

-- whether n is the number of a taken cell
abbrev pub is_taken : Meaning → ℕ → Bool
is_taken m n = is_some (held m n)

-- a taken cell has sixteen words
abbrev pub Sixteen : Cell → Type 0
Sixteen None = Unit {0}
Sixteen (Some ws) = length ws ≡ 16

-- what holds of every pool: taken cells and count never sum past the bound, the bound is at most 65,535, taken cells have sixteen words
pub record Lawful (m : Meaning) : Type 0 where
  pub few : taken m + m.free ≤ limit m
  pub bounded : limit m ≤ 65535
  pub wide : AllByRecursion Sixteen m.cells

-- a pool of n cells, all free
abbrev pub all_free : ℕ → Meaning
all_free n = record { cells = replicate n None; free = n }

-- the cells once the one of number n, from 1, is c and the others are as they were
abbrev pub placed : Meaning → ℕ → Cell → List Cell
placed m n c = slice_set m.cells (n - 1) c

-- the words of a cell just taken
abbrev pub zeros : List ℕ
zeros = replicate 16 0

-- cell n is taken with sixteen zero words
abbrev pub after_take : Meaning → ℕ → Meaning
after_take m n = record { cells = placed m n (Some zeros); free = m.free - 1 }

-- cell n is freed
abbrev pub after_give : Meaning → ℕ → Meaning
after_give m n = record { cells = placed m n None; free = m.free + 1 }

-- word k of cell n is w
abbrev pub after_write : Meaning → ℕ → ℕ → ℕ → Meaning
after_write m n k w = record { cells = placed m n (Some (slice_set (unwrap_or (held m n) []) k w)); free = m.free }

-- take answers n: a cell was free, n is the number of one that was not taken, and now it is
pub record TakesCell (m : Meaning) (n : ℕ) (m' : Meaning) : Type 0 where
  pub spare : 0 < m.free
  pub low : 1 ≤ n
  pub high : n ≤ limit m
  pub fresh : held m n ≡ None
  pub after : m' ≡ after_take m n

-- take: none exactly when no cell is free, and then nothing changes; the bound never does
pub record Takes (m : Meaning) (r : Option ℕ) (m' : Meaning) : Type 0 where
  pub cases : MatchOption r ((m.free ≡ 0) × (m' ≡ m)) (λ n. TakesCell m n m')
  pub bound : limit m' ≡ limit m

-- give: true exactly when cell n is taken, and only then something changes
pub record Gives (m : Meaning) (n : ℕ) (r : Bool) (m' : Meaning) : Type 0 where
  pub answer : r ≡ is_taken m n
  pub after : m' ≡ cond r (after_give m n) m
  pub bound : limit m' ≡ limit m

-- whether there is a word k of a taken cell n
abbrev pub has_word : Meaning → ℕ → ℕ → Bool
has_word m n k = is_taken m n && nat_lt k 16

-- read: that word, none exactly when there is no such word
abbrev pub word_at : Meaning → ℕ → ℕ → Option ℕ
word_at m n k = cond (has_word m n k) (Some (slice_index (unwrap_or (held m n) []) k)) None

-- write: true exactly when there is such a word, and only then something changes
pub record Writes (m : Meaning) (n k w : ℕ) (r : Bool) (m' : Meaning) : Type 0 where
  pub answer : r ≡ has_word m n k
  pub after : m' ≡ cond r (after_write m n k w) m
  pub bound : limit m' ≡ limit m

-- whether two pools can be joined: the bounds sum to at most 65,535
abbrev pub fit : Meaning → Meaning → Bool
fit l r = nat_le (limit l + limit r) 65535

-- two pools joined: the right one's cells follow the left one's, and the counts add
abbrev pub both : Meaning → Meaning → Meaning
both l r = record { cells = l.cells ++ r.cells; free = l.free + r.free }

-- the pair of two pools: the right one is ignored where they cannot be joined
abbrev pub paired : Meaning → Meaning → Meaning
paired l r = cond (fit l r) (both l r) l

-- a reserve of q over a pool: of the free cells only q count, or all where there are fewer
abbrev pub reserved : Meaning → ℕ → Meaning
reserved m q = record { cells = m.cells; free = min q m.free }
