-- How a value lies in words and in a pool's cells.
use Rattle.std.specs.Prelude.{◌≡◌, ℕ, ◌+◌, Bool, cond, List, [], ◌∷◌, ◌++◌, ◌==◌, slice_index}
use Rattle.std.specs.Int.{w32}
use Rattle.std.proofs.Common.{to_z}
use Rattle.std.specs.Option.{unwrap_or}
use Rattle.lfpl.specs.Syntax.{Ty, int, diamond, list_of, tree_of, pair_of, sum_of, width, first, second}
use Rattle.lfpl.specs.Values.{Val, num, dia, nil, cons, leaf, node, pair, left, right}
use Rattle.pool.specs.Pools.{Meaning, held, is_taken}

-- 1 for true, 0 for false
abbrev pub one : Bool → ℕ
one b = cond b 1 0

-- 1 where the cell is taken, else 0
abbrev pub used : Meaning → ℕ → ℕ
used m c = one (is_taken m c)

-- how often c occurs in a list of cells
abbrev pub occ : ℕ → List ℕ → ℕ
occ c [] = 0
occ c (x ∷ xs) = one (x == c) + occ c xs

-- the words of a taken cell
abbrev pub words_of : Meaning → ℕ → List ℕ
words_of m c = unwrap_or (held m c) []

-- The words ws from the place o on, read on through the cells of the pool, are the layout of the value v of the type A. A number of N is a word in two's
-- complement and a diamond is its cell's number. An empty list is 0; another is the number of a cell with the element's words and then the tail's word. A leaf
-- is 0 and its label; a node is 1, its label and the numbers of two cells, which hold the subtrees' words. A pair is both parts in order, a sum 0 or 1 and then
-- the part.
unfoldable pub Shows : Meaning → Ty → Val → List ℕ → ℕ → Type 0
Shows m A (num z) ws o = (A ≡ int) × (z ≡ to_z w32 (slice_index ws o))
Shows m A dia ws o = (A ≡ diamond) × (used m (slice_index ws o) ≡ 1)
Shows m A nil ws o = (A ≡ list_of (first A)) × (slice_index ws o ≡ 0)
Shows m A (cons a b) ws o =
    (A ≡ list_of (first A)) × (used m (slice_index ws o) ≡ 1)
    × Shows m (first A) a (words_of m (slice_index ws o)) 0 × Shows m A b (words_of m (slice_index ws o)) (width (first A))
Shows m A (leaf a) ws o = (A ≡ tree_of (first A)) × (slice_index ws o ≡ 0) × Shows m (first A) a ws (o + 1)
Shows m A (node a l r) ws o =
    (A ≡ tree_of (first A)) × (slice_index ws o ≡ 1) × Shows m (first A) a ws (o + 1)
    × (used m (slice_index ws (o + 1 + width (first A))) ≡ 1) × Shows m A l (words_of m (slice_index ws (o + 1 + width (first A)))) 0
    × (used m (slice_index ws (o + 2 + width (first A))) ≡ 1) × Shows m A r (words_of m (slice_index ws (o + 2 + width (first A)))) 0
Shows m A (pair a b) ws o = (A ≡ pair_of (first A) (second A)) × Shows m (first A) a ws o × Shows m (second A) b ws (o + width (first A))
Shows m A (left a) ws o = (A ≡ sum_of (first A) (second A)) × (slice_index ws o ≡ 0) × Shows m (first A) a ws (o + 1)
Shows m A (right a) ws o = (A ≡ sum_of (first A) (second A)) × (slice_index ws o ≡ 1) × Shows m (second A) a ws (o + 1)

-- The cells that a value holds where it lies so: a diamond's own, each list element's and each node's two, those inside others included.
unfoldable pub footprint : Meaning → Ty → Val → List ℕ → ℕ → List ℕ
footprint m A (num z) ws o = []
footprint m A dia ws o = slice_index ws o ∷ []
footprint m A nil ws o = []
footprint m A (cons a b) ws o =
    slice_index ws o ∷ (footprint m (first A) a (words_of m (slice_index ws o)) 0 ++ footprint m A b (words_of m (slice_index ws o)) (width (first A)))
footprint m A (leaf a) ws o = footprint m (first A) a ws (o + 1)
footprint m A (node a l r) ws o =
    footprint m (first A) a ws (o + 1)
    ++ ((slice_index ws (o + 1 + width (first A)) ∷ footprint m A l (words_of m (slice_index ws (o + 1 + width (first A)))) 0)
    ++ (slice_index ws (o + 2 + width (first A)) ∷ footprint m A r (words_of m (slice_index ws (o + 2 + width (first A)))) 0))
footprint m A (pair a b) ws o = footprint m (first A) a ws o ++ footprint m (second A) b ws (o + width (first A))
footprint m A (left a) ws o = footprint m (first A) a ws (o + 1)
footprint m A (right a) ws o = footprint m (second A) a ws (o + 1)
