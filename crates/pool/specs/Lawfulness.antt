-- The meanings of the pools are lawful.
use Rattle.std.specs.Prelude.{◌≡◌, ℕ, ◌+◌, ◌*◌, ◌<◌, ◌≤◌, true, false, cond, List, [], ◌∷◌, length, take, drop, is_some, Some, None, count_by, ◌==◌, slice_index_or, refl}
use Rattle.std.proofs.Common.{sym, subst, ⊎_elim, arith}
use Rattle.std.proofs.lemmas.List.{length-take-le, length-drop, length-append}
use Rattle.std.proofs.lemmas.List.FromFn.{length-map-range_with_len, get_or-map-range_with_len}
use Rattle.std.proofs.ByRecursion.{All-from_get_or, All-append}
use Rattle.std.proofs.lemmas.List.Sums.{sum_by-cons, sum_by-append}
use Rattle.std.proofs.lemmas.Bool.{cases_Bool, leb-true}
use Rattle.pool.specs.Pools.{Cell, Meaning, limit, Sixteen, Lawful, fit, both, paired, reserved}
use Rattle.pool.specs.Words.{cells_of, mark_of, cell_of, in_words, is_free, words_mean}

-- every cell lies within the words
pub cells_fit : (ws : List ℕ) (i : ℕ) → i < cells_of ws → 17 * i + 17 ≤ length ws
cells_fit ws i h = omega arith

-- as many cells as are counted
pub length_in : (ws : List ℕ) → length (in_words ws) ≡ cells_of ws
length_in ws = length-map-range_with_len (cell_of ws) 0 (cells_of ws)

-- each at its place
pub get_or_in : (ws : List ℕ) (i : ℕ) → i < cells_of ws → slice_index_or (in_words ws) i None ≡ cell_of ws i
get_or_in ws i h = get_or-map-range_with_len (cell_of ws) 0 (cells_of ws) i i None h (omega arith)

-- a cell is taken or free
taken_or_free : (cs : List Cell) → count_by is_some cs + count_by is_free cs ≡ length cs
taken_or_free [] = refl
taken_or_free (None ∷ cs) = omega (arith, taken_or_free cs, sum_by-cons (λ x. cond (is_some x) 1 0) None cs, sum_by-cons (λ x. cond (is_free x) 1 0) None cs)
taken_or_free (Some x ∷ cs) = omega (arith, taken_or_free cs, sum_by-cons (λ x. cond (is_some x) 1 0) (Some x) cs, sum_by-cons (λ x. cond (is_free x) 1 0) (Some x) cs)

-- a taken cell among the words has sixteen
sixteen : (ws : List ℕ) (i : ℕ) → i < cells_of ws → Sixteen (cell_of ws i)
sixteen ws i h =
    let long : length (take 16 (drop (17 * i + 1) ws)) ≡ 16 = length-take-le 16 (drop (17 * i + 1) ws) (omega (arith, length-drop (17 * i + 1) ws, cells_fit ws i h)) in
    elim (mark_of ws i == 0) as (λ b. Sixteen (cond b None (Some (take 16 (drop (17 * i + 1) ws))))) [ true ↦ tt | false ↦ long ]

-- words as a pool
pub lawful_words : (ws : List ℕ) → Lawful (words_mean ws)
unfolding words_mean
lawful_words ws = record {
  few = omega (arith, taken_or_free (in_words ws));
  bounded = omega (arith, length_in ws);
  wide = All-from_get_or Sixteen (in_words ws) None (λ i h. let l : i < cells_of ws = omega (arith, length_in ws) in let P : Cell → Type 0 = Sixteen in subst P (sym (get_or_in ws i l)) (sixteen ws i l));
}

-- the bounds add
pub limit_both : (l r : Meaning) → limit (both l r) ≡ limit l + limit r
limit_both l r = length-append l.cells r.cells

-- a fact of the pair, where the pools can be joined and where not
pub by_fit : (P : Meaning → Type 0) (l r : Meaning) → (fit l r ≡ true → P (both l r)) → (fit l r ≡ false → P l) → P (paired l r)
by_fit P l r joined alone = ⊎_elim (λ e. rw e (joined e)) (λ e. rw e (alone e)) (cases_Bool (fit l r))

-- a pair of pools
pub lawful_pair : (l r : Meaning) → Lawful l → Lawful r → Lawful (paired l r)
lawful_pair l r p q = by_fit (λ m. Lawful m) l r
    (λ e. record {
      few = omega (arith, p.few, q.few, limit_both l r, sum_by-append (λ x. cond (is_some x) 1 0) l.cells r.cells);
      bounded = omega (arith, limit_both l r, leb-true (limit l + limit r) 65535 e);
      wide = All-append Sixteen l.cells r.cells p.wide q.wide;
    })
    (λ _. p)

-- a reserve
pub lawful_reserve : (m : Meaning) (q : ℕ) → Lawful m → Lawful (reserved m q)
lawful_reserve m q l = record { few = omega (arith, l.few); bounded = l.bounded; wide = l.wide }
