-- Cells in a list of words: what a change of one cell's words does to the pool.
use Rattle.std.proofs.Common.{◌≡◌, ℕ, zero, suc, ◌+◌, ◌-◌, ◌*◌, ◌/◌, ◌<◌, ◌≤◌, min, true, false, cond, not, ◌&&◌, eqb, ltb, ◌≢◌, List, [], ◌∷◌, ◌++◌, length, get_or, take, drop, set, replicate, is_some, Some, None, count_by, Option, unwrap_or, sym, refl, ap, ◌∙◌, subst, ⊎_elim, arith, lit≤, lit<, below_more}
use lib.Seq.{paste, take-set-lt}
use Rattle.std.specs.List.{AllByRecursion, position, position_from}
use Rattle.std.specs.Simd.{first_chunks}
use Rattle.std.proofs.lemmas.List.Edits.{length-paste, paste_none, paste_more}
use Rattle.std.proofs.lemmas.List.{get_or_append_left, get_or-append_right, length-append, drop-drop, drop-set-add, length-set, length-take, length-take-le, length-drop, get_or-take, get_or-drop, ext_get_or, get_or-set_same, get_or-set_other, length-replicate, get_or-replicate}
use Rattle.std.proofs.ByRecursion.{All-from_get_or}
use Rattle.std.proofs.lemmas.List.Sums.{sum_by-set, sum_by-cons}
use Rattle.std.proofs.lemmas.Bool.{lt-ltb, le-ltb, eqb-true, cases_eq, cases_lt, eq-eqb, ne_eqb, true≢false}
use Rattle.std.proofs.lemmas.List.Quantifiers.{position-Some}
use Rattle.std.proofs.lemmas.Iterator.Adapters.{position_from-zero}
use Rattle.pool.specs.Pools.{Cell, limit, held, zeros, placed, all_free, Takes, Gives, word_at, Writes}
use Rattle.pool.specs.Words.{cells_of, mark_of, cell_of, in_words, is_free, words_mean, leftover, cells_in, unmarked, Placed, Found}
use Rattle.pool.specs.Lawfulness.{cells_fit, length_in, get_or_in}
use Rattle.pool.proofs.Laws.{held_is, held_past, same_meaning, takes_cell, gives, word_taken, writes}

-- the bound
pub limit_words : (ws : List ℕ) → limit (words_mean ws) ≡ cells_of ws
unfolding words_mean
limit_words ws = length_in ws

-- the cell of number n
held_in : (ws : List ℕ) (n : ℕ) → 1 ≤ n → n - 1 < cells_of ws → held (words_mean ws) n ≡ cell_of ws (n - 1)
unfolding words_mean
held_in ws n h l = held_is (words_mean ws) n h ∙ get_or_in ws (n - 1) l

-- the mark says whether a cell is taken
free_cell : (ws : List ℕ) (i : ℕ) → mark_of ws i ≡ 0 → cell_of ws i ≡ None
free_cell ws i e = ap (λ b. cond b None (Some (take 16 (drop (17 * i + 1) ws)))) (eq-eqb (mark_of ws i) 0 e)

taken_cell : (ws : List ℕ) (i : ℕ) → (mark_of ws i ≡ 0 → ⊥) → cell_of ws i ≡ Some (take 16 (drop (17 * i + 1) ws))
taken_cell ws i e = ap (λ b. cond b None (Some (take 16 (drop (17 * i + 1) ws)))) (ne_eqb (mark_of ws i) 0 e)

free_marked : (ws : List ℕ) (i : ℕ) → eqb (mark_of ws i) 0 ≡ is_free (cell_of ws i)
free_marked ws i = elim (eqb (mark_of ws i) 0) as (λ b. b ≡ is_free (cond b None (Some (take 16 (drop (17 * i + 1) ws))))) [ true ↦ refl | false ↦ refl ]

taken_mark : (ws : List ℕ) (i : ℕ) → is_some (cell_of ws i) ≡ true → mark_of ws i ≡ 0 → ⊥
taken_mark ws i t e = true≢false (sym t ∙ ap is_some (free_cell ws i e))

-- whether a cell counts as free
abbrev spare : Cell → ℕ
spare c = cond (is_free c) 1 0

-- ws' differs from ws within the cell at place i alone
record Frame (ws ws' : List ℕ) (i : ℕ) : Type 0 where
  pub long : length ws' ≡ length ws
  pub below : (j : ℕ) → j < 17 * i → get_or ws' j 0 ≡ get_or ws j 0
  pub above : (j : ℕ) → 17 * i + 17 ≤ j → get_or ws' j 0 ≡ get_or ws j 0

same_count : (ws ws' : List ℕ) → length ws' ≡ length ws → cells_of ws' ≡ cells_of ws
same_count ws ws' e = ap (λ n. min 512 (n / 17)) e

-- a word of another cell
apart : (ws ws' : List ℕ) (i k j : ℕ) → Frame ws ws' i → k ≢ i → j < 17 → get_or ws' (17 * k + j) 0 ≡ get_or ws (17 * k + j) 0
apart ws ws' i k j f ne h =
    ⊎_elim (λ l. f.below (17 * k + j) (omega arith))
    (λ l. f.above (17 * k + j) (let m : i < k = omega arith in omega arith))
    (cases_lt k i)

-- the words of the cell at place k
word_in : (ws : List ℕ) (k j : ℕ) → j < 16 → get_or (take 16 (drop (17 * k + 1) ws)) j 0 ≡ get_or ws (17 * k + (1 + j)) 0
word_in ws k j h =
    get_or-take 16 (drop (17 * k + 1) ws) j 0 h ∙ get_or-drop (17 * k + 1) ws j 0
    ∙ ap (λ x. get_or ws x 0) (let e : 17 * k + 1 + j ≡ 17 * k + (1 + j) = omega arith in e)

mark_in : (ws : List ℕ) (k : ℕ) → mark_of ws k ≡ get_or ws (17 * k + 0) 0
mark_in ws k = ap (λ x. get_or ws x 0) (let e : 17 * k ≡ 17 * k + 0 = omega arith in e)

-- another cell
same_cell : (ws ws' : List ℕ) (i k : ℕ) → Frame ws ws' i → k ≢ i → cell_of ws' k ≡ cell_of ws k
same_cell ws ws' i k f ne =
    ap (λ m. cond (eqb m 0) None (Some (take 16 (drop (17 * k + 1) ws')))) (mark_in ws' k ∙ apart ws ws' i k 0 f ne (omega arith) ∙ sym (mark_in ws k))
    ∙ ap (λ x. cond (eqb (mark_of ws k) 0) None (Some x))
    (ext_get_or 0 (take 16 (drop (17 * k + 1) ws')) (take 16 (drop (17 * k + 1) ws)) (simp (length-take, length-drop, f.long))
    (λ j h.
    let short : j < 16 = omega (arith, length-take 16 (drop (17 * k + 1) ws')) in
    word_in ws' k j short ∙ apart ws ws' i k (1 + j) f ne (omega arith) ∙ sym (word_in ws k j short)))

-- all cells, if the one at place i becomes c
changed : (ws ws' : List ℕ) (i : ℕ) (c : Cell) → Frame ws ws' i → i < cells_of ws → cell_of ws' i ≡ c → in_words ws' ≡ set (in_words ws) i c
changed ws ws' i c f l e =
    let many : cells_of ws' ≡ cells_of ws = same_count ws ws' f.long in
    ext_get_or None (in_words ws') (set (in_words ws) i c)
    (length_in ws' ∙ many ∙ sym (length_in ws) ∙ sym (length-set (in_words ws) i c))
    (λ k h.
    let k_in : k < cells_of ws' = omega (arith, length_in ws') in
    get_or_in ws' k k_in ∙
    ⊎_elim (λ is. ap (cell_of ws') is ∙ e ∙ sym (get_or-set_same (in_words ws) i c None (omega (arith, length_in ws))) ∙ ap (λ x. get_or (set (in_words ws) i c) x None) (sym is))
    (λ ne. same_cell ws ws' i k f ne ∙ sym (get_or_in ws k (omega arith)) ∙ sym (get_or-set_other (in_words ws) i k c None ne))
    (cases_eq k i))

-- the pool, if the cell of number n was b and becomes c: the count moves by what the two count
changes : (ws ws' : List ℕ) (n f : ℕ) (b c : Cell) → Frame ws ws' (n - 1) → 1 ≤ n → n - 1 < cells_of ws → held (words_mean ws) n ≡ b → cell_of ws' (n - 1) ≡ c
    → f + spare b ≡ (words_mean ws).free + spare c → words_mean ws' ≡ record { cells = placed (words_mean ws) n c; free = f }
unfolding words_mean
changes ws ws' n f b c fr h l was is count =
    let i = n - 1 in
    let new = changed ws ws' i c fr l is in
    let old : spare (get_or (in_words ws) i None) ≡ spare b = ap spare (sym (held_is (words_mean ws) n h) ∙ was) in
    let sum = sum_by-set spare (in_words ws) i c None (omega (arith, length_in ws)) in
    same_meaning (in_words ws') (set (in_words ws) i c) (count_by is_free (in_words ws')) f new (ap (count_by is_free) new ∙ omega (arith, sum, old, count))

-- the words that belong to no cell
leftover_kept : (ws ws' : List ℕ) (i : ℕ) → Frame ws ws' i → i < cells_of ws → leftover ws' ≡ leftover ws
leftover_kept ws ws' i f l =
    let n = 17 * cells_of ws in
    ap (λ k. drop (17 * k) ws') (same_count ws ws' f.long)
    ∙ ext_get_or 0 (drop n ws') (drop n ws) (simp (length-drop, f.long))
    (λ j h. get_or-drop n ws' j 0 ∙ f.above (n + j) (omega arith) ∙ sym (get_or-drop n ws j 0))

-- one word of the cell at place i is set
frame_set : (ws : List ℕ) (i at v : ℕ) → 17 * i ≤ at → at < 17 * i + 17 → Frame ws (set ws at v) i
frame_set ws i at v low high = record {
  long = length-set ws at v;
  below = λ k l. get_or-set_other ws at k v 0 (λ e. omega arith);
  above = λ k l. get_or-set_other ws at k v 0 (λ e. omega arith);
}

-- `place`
pub place_past : (ws : List ℕ) (n : ℕ) → 1 ≤ n → cells_of ws ≤ n - 1 → Placed ws n None
place_past ws n h l = record { cases = ap is_some (held_past (words_mean ws) n (omega (arith, limit_words ws))) }

pub place_free : (ws : List ℕ) (n i : ℕ) → n ≡ i + 1 → i < cells_of ws → mark_of ws i ≡ 0 → Placed ws n None
place_free ws n i a l e = record {
  cases = ap is_some (held_in ws n (omega arith) (omega arith) ∙ free_cell ws (n - 1) (ap (mark_of ws) (let b : n - 1 ≡ i = omega arith in b) ∙ e));
}

pub place_taken : (ws : List ℕ) (n i : ℕ) → n ≡ i + 1 → i < cells_of ws → (mark_of ws i ≡ 0 → ⊥) → Placed ws n (Some (17 * i))
place_taken ws n i a l e = record {
  cases = (
    omega arith,
    omega arith,
    omega arith,
    omega (arith, cells_fit ws i l),
    ap is_some (held_in ws n (omega arith) (omega arith) ∙ taken_cell ws (n - 1) (λ z. e (ap (mark_of ws) (let b : i ≡ n - 1 = omega arith in b) ∙ z))),
  );
}

-- a free cell counts
some_free : (ws : List ℕ) (i : ℕ) → i < cells_of ws → mark_of ws i ≡ 0 → 0 < (words_mean ws).free
unfolding words_mean
some_free ws i l e =
    let one : spare (get_or (in_words ws) i None) ≡ 1 = ap spare (get_or_in ws i l ∙ free_cell ws i e) in
    omega (arith, one, sum_by-set spare (in_words ws) i (Some zeros) None (omega (arith, length_in ws)))

-- `find`
count_none : (cs : List Cell) → AllByRecursion (λ c. is_free c ≡ false) cs → count_by is_free cs ≡ 0
count_none [] h = refl
count_none (None ∷ cs) h = absurd (true≢false h.0)
count_none (Some x ∷ cs) h = omega (arith, count_none cs h.1, sum_by-cons spare (Some x) cs)

none_free : (ws : List ℕ) → ((k : ℕ) → k < cells_of ws → mark_of ws k ≡ 0 → ⊥) → (words_mean ws).free ≡ 0
unfolding words_mean
none_free ws h = count_none (in_words ws) (All-from_get_or (λ c. is_free c ≡ false) (in_words ws) None
    (λ i l. let k : i < cells_of ws = omega (arith, length_in ws) in ap is_free (get_or_in ws i k ∙ taken_cell ws i (h i k))))

-- the cell at place i as it lies
chunk_at : (k i : ℕ) (ws : List ℕ) (d : List ℕ) → i < k → get_or (first_chunks 17 k ws) i d ≡ take 17 (drop (17 * i) ws)
chunk_at zero i ws d h = absurd (omega arith)
chunk_at (suc k) zero ws d h = refl
chunk_at (suc k) (suc i) ws d h =
    chunk_at k i (drop 17 ws) d (omega arith) ∙ ap (take 17) (drop-drop (17 * i) 17 ws ∙ ap (λ j. drop j ws) (let e : 17 + 17 * i ≡ 17 * suc i = omega arith in e))

length_chunks : (k : ℕ) (ws : List ℕ) → length (first_chunks 17 k ws) ≡ k
length_chunks zero ws = refl
length_chunks (suc k) ws = ap suc (length_chunks k (drop 17 ws))

take_chunks : (j k : ℕ) (ws : List ℕ) → j ≤ k → take j (first_chunks 17 k ws) ≡ first_chunks 17 j ws
take_chunks zero k ws h = refl
take_chunks (suc j) zero ws h = absurd (omega arith)
take_chunks (suc j) (suc k) ws h = ap (λ cs. take 17 ws ∷ cs) (take_chunks j k (drop 17 ws) (omega arith))

pub cells_from : (ws : List ℕ) (k : ℕ) (cs : List (List ℕ)) → cs ≡ first_chunks 17 (length ws / 17) ws → k ≡ cells_of ws → take k cs ≡ cells_in ws
cells_from ws k cs e h = ap (take k) e ∙ take_chunks k (length ws / 17) ws (omega arith) ∙ ap (λ j. first_chunks 17 j ws) h

-- .. and its mark
pub chunk_mark : (ws : List ℕ) (i : ℕ) (d : List ℕ) → i < cells_of ws → get_or (get_or (cells_in ws) i d) 0 0 ≡ mark_of ws i
chunk_mark ws i d h =
    ap (λ c. get_or c 0 0) (chunk_at (cells_of ws) i ws d h) ∙ get_or-take 17 (drop (17 * i) ws) 0 0 (lit< tt) ∙ get_or-drop (17 * i) ws 0 0 ∙ sym (mark_in ws i)

pub mark_read : (ws : List ℕ) (cs : List (List ℕ)) (i : ℕ) (c : List ℕ) → cs ≡ cells_in ws → i < cells_of ws → c ≡ get_or cs i c → get_or c 0 0 ≡ mark_of ws i
mark_read ws cs i c e h is = ap (λ x. get_or x 0 0) (is ∙ ap (λ l. get_or l i c) e) ∙ chunk_mark ws i c h

-- `find`
none_from : (n : ℕ) (cs : List (List ℕ)) → position_from unmarked n cs ≡ None → (k : ℕ) → k < length cs → unmarked (get_or cs k []) ≡ false
none_from n [] e k h = absurd (omega arith)
none_from n (c ∷ cs) e zero h =
    elim (unmarked c) as (λ b. cond b (Some n) (position_from unmarked (n + 1) cs) ≡ None → b ≡ false) [ true ↦ λ z. cc | false ↦ λ _. refl ] e
none_from n (c ∷ cs) e (suc k) h =
    let o : Option ℕ = position_from unmarked (n + 1) cs in
    none_from (n + 1) cs (elim (unmarked c) as (λ b. cond b (Some n) o ≡ None → o ≡ None) [ true ↦ λ z. cc | false ↦ λ z. z ] e) k (omega arith)

module _ (ws : List ℕ) (cs : List (List ℕ)) (is : cs ≡ cells_in ws) (start : ℕ) (in' : start ≤ cells_of ws) where
  long : length cs ≡ cells_of ws
  long = ap length is ∙ length_chunks (cells_of ws) ws

  -- what is found in the one part or the other
  pub found_after : (i : ℕ) → Some i ≡ position unmarked (drop start cs) → Found ws (Some (start + i))
  found_after i e =
      let p = position-Some unmarked (drop start cs) i [] (sym e) in
      let l : start + i < cells_of ws = omega (arith, p.0, length-drop start cs, long) in
      record {
        cases = (
          l,
          cells_fit ws (start + i) l,
          sym (chunk_mark ws (start + i) [] l) ∙ ap (λ x. get_or (get_or x (start + i) []) 0 0) (sym is) ∙ ap (λ c. get_or c 0 0) (sym (get_or-drop start cs i [])) ∙ eqb-true _ _ p.1,
        );
      }

  pub found_before : (r : Option ℕ) → None ≡ position unmarked (drop start cs) → r ≡ position unmarked (take start cs) → Found ws r
  found_before (Some i) n e =
      let p = position-Some unmarked (take start cs) i [] (sym e) in
      let short : i < start = omega (arith, p.0, length-take start cs) in
      let l : i < cells_of ws = omega arith in
      record {
        cases = (
          l,
          cells_fit ws i l,
          sym (chunk_mark ws i [] l) ∙ ap (λ x. get_or (get_or x i []) 0 0) (sym is) ∙ ap (λ c. get_or c 0 0) (sym (get_or-take start cs i [] short)) ∙ eqb-true _ _ p.1,
        );
      }
  found_before None n e =
      record {
        cases = none_free ws (λ k l z.
            let mark : get_or (get_or cs k []) 0 0 ≡ 0 = ap (λ x. get_or (get_or x k []) 0 0) is ∙ chunk_mark ws k [] l ∙ z in
            let free : unmarked (get_or cs k []) ≡ true = eq-eqb _ _ mark in
            true≢false (sym free ∙ ⊎_elim
            (λ (b : k < start). ap unmarked (sym (get_or-take start cs k [] b)) ∙ none_from 0 (take start cs) (sym (position_from-zero unmarked (take start cs)) ∙ sym e) k (omega (arith, length-take start cs, long)))
            (λ (a : start ≤ k).
            let at : start + (k - start) ≡ k = omega arith in
            ap (λ j. unmarked (get_or cs j [])) (sym at) ∙ ap unmarked (sym (get_or-drop start cs (k - start) []))
            ∙ none_from 0 (drop start cs) (sym (position_from-zero unmarked (drop start cs)) ∙ sym n) (k - start) (omega (arith, length-drop start cs, long)))
            (cases_lt k start)));
      }

-- words pasted over others: those pasted, those before, those after
get_or_mid : (d : List ℕ) (at : ℕ) (s : List ℕ) (n j : ℕ) → at + n ≤ length d → n ≤ length s → j < n → get_or (paste d at s n) (at + j) 0 ≡ get_or s j 0
get_or_mid d at s n j h k l =
    let front : length (take at d) ≡ at = length-take-le at d (omega arith) in
    let mid : length (take n s) ≡ n = length-take-le n s k in
    get_or_append_left (take at d ++ take n s) (drop (at + n) d) 0 (at + j) (omega (arith, length-append (take at d) (take n s)))
    ∙ get_or-append_right (take at d) (take n s) at (at + j) 0 front (omega arith)
    ∙ ap (λ x. get_or (take n s) x 0) (let e : at + j - at ≡ j = omega arith in e)
    ∙ get_or-take n s j 0 l

get_or_before : (d : List ℕ) (at : ℕ) (s : List ℕ) (n j : ℕ) → at + n ≤ length d → n ≤ length s → j < at → get_or (paste d at s n) j 0 ≡ get_or d j 0
get_or_before d at s n j h k l =
    let front : length (take at d) ≡ at = length-take-le at d (omega arith) in
    get_or_append_left (take at d ++ take n s) (drop (at + n) d) 0 j (omega (arith, length-append (take at d) (take n s)))
    ∙ get_or_append_left (take at d) (take n s) 0 j (omega arith)
    ∙ get_or-take at d j 0 l

get_d_after : (d : List ℕ) (at : ℕ) (s : List ℕ) (n j : ℕ) → at + n ≤ length d → n ≤ length s → at + n ≤ j → get_or (paste d at s n) j 0 ≡ get_or d j 0
get_d_after d at s n j h k l =
    let front : length (take at d) ≡ at = length-take-le at d (omega arith) in
    let mid : length (take n s) ≡ n = length-take-le n s k in
    get_or-append_right (take at d ++ take n s) (drop (at + n) d) (at + n) j 0 (omega (arith, length-append (take at d) (take n s))) l
    ∙ get_or-drop (at + n) d (j - (at + n)) 0
    ∙ ap (λ x. get_or d x 0) (let e : at + n + (j - (at + n)) ≡ j = omega arith in e)

-- `freshen`
fresh_frame : (ws : List ℕ) (i : ℕ) → 17 * i + 17 ≤ length ws → Frame ws (paste ws (17 * i) (1 ∷ zeros) 17) i
fresh_frame ws i h = record {
  long = length-paste ws (17 * i) (1 ∷ zeros) 17 h (lit≤ tt);
  below = λ j l. get_or_before ws (17 * i) (1 ∷ zeros) 17 j h (lit≤ tt) l;
  above = λ j l. get_d_after ws (17 * i) (1 ∷ zeros) 17 j h (lit≤ tt) l;
}

fresh_cell : (ws : List ℕ) (i : ℕ) → 17 * i + 17 ≤ length ws → cell_of (paste ws (17 * i) (1 ∷ zeros) 17) i ≡ Some zeros
fresh_cell ws i h =
    let new = paste ws (17 * i) (1 ∷ zeros) 17 in
    let mark : mark_of new i ≡ 1 = mark_in new i ∙ get_or_mid ws (17 * i) (1 ∷ zeros) 17 0 h (lit≤ tt) (omega arith) in
    let long : length new ≡ length ws = length-paste ws (17 * i) (1 ∷ zeros) 17 h (lit≤ tt) in
    let sixteen : length (take 16 (drop (17 * i + 1) new)) ≡ 16 = length-take-le 16 (drop (17 * i + 1) new) (omega (arith, length-drop (17 * i + 1) new)) in
    taken_cell new i (λ e. omega arith)
    ∙ ap Some (ext_get_or 0 (take 16 (drop (17 * i + 1) new)) zeros sixteen
    (λ j l.
    let short : j < 16 = omega arith in
    word_in new i j short
    ∙ get_or_mid ws (17 * i) (1 ∷ zeros) 17 (1 + j) h (lit≤ tt) (omega arith)
    ∙ ap (λ x. get_or (1 ∷ zeros) x 0) (let e : 1 + j ≡ suc j = omega arith in e)))

-- `take`
pub take_words : (ws ws' : List ℕ) (i : ℕ) → Found ws (Some i) → ws' ≡ paste ws (17 * i) (1 ∷ zeros) 17
    → Takes (words_mean ws) (Some (i + 1)) (words_mean ws') × (leftover ws' ≡ leftover ws)
take_words ws ws' i f is =
    let l = f.cases.0 in
    let h = f.cases.1 in
    let new = paste ws (17 * i) (1 ∷ zeros) 17 in
    let back : i ≡ i + 1 - 1 = omega arith in
    let low : 1 ≤ i + 1 = omega arith in
    let in' : i + 1 - 1 < cells_of ws = omega arith in
    let frame : Frame ws new (i + 1 - 1) = subst (λ x. Frame ws new x) back (fresh_frame ws i h) in
    let was : held (words_mean ws) (i + 1) ≡ None = held_in ws (i + 1) low in' ∙ ap (cell_of ws) (sym back) ∙ free_cell ws i f.cases.2 in
    let now' : cell_of new (i + 1 - 1) ≡ Some zeros = ap (cell_of new) (sym back) ∙ fresh_cell ws i h in
    let more : 0 < (words_mean ws).free = some_free ws i l f.cases.2 in
    rw is (
      takes_cell _ _ _ (record {
        spare = more;
        low = low;
        high = omega (arith, limit_words ws);
        fresh = was;
        after = changes ws new (i + 1) ((words_mean ws).free - 1) None (Some zeros) frame low in' was now' (omega arith);
      }),
      leftover_kept ws new i (fresh_frame ws i h) l,
    )

-- one word pasted over another
paste_one : (ws : List ℕ) (at v : ℕ) → at < length ws → paste ws at (v ∷ []) 1 ≡ set ws at v
paste_one ws at v h =
    sym (paste_more ws at (v ∷ []) 0 0 (omega arith) (lit< tt)) ∙ ap (λ x. set x (at + 0) v) (sym (paste_none ws at (v ∷ [])))
    ∙ ap (λ i. set ws i v) (let e : at + 0 ≡ at = omega arith in e)

-- `give`
pub give_words : (ws ws' : List ℕ) (n at : ℕ) → Placed ws n (Some at) → ws' ≡ paste ws at (0 ∷ []) 1
    → Gives (words_mean ws) n true (words_mean ws') × (leftover ws' ≡ leftover ws)
give_words ws ws' n at p is =
    let i = n - 1 in
    let a : at ≡ 17 * i = p.cases.0 in
    let f : Frame ws (set ws at 0) i = frame_set ws i at 0 (omega arith) (omega arith) in
    let mark : mark_of (set ws at 0) i ≡ 0 = ap (λ x. get_or (set ws at 0) x 0) (sym a) ∙ get_or-set_same ws at 0 0 (omega (arith, p.cases.3)) in
    rw (is, paste_one ws at 0 (omega (arith, p.cases.3))) (
      gives _ _ _ _ (sym p.cases.4) (changes ws (set ws at 0) n ((words_mean ws).free + 1) (held (words_mean ws) n) None f p.cases.1 p.cases.2 refl (free_cell (set ws at 0) i mark)
          (ap (λ b. (words_mean ws).free + 1 + cond (not b) 1 0) p.cases.4 ∙ omega arith)),
      leftover_kept ws (set ws at 0) i f p.cases.2,
    )

-- the words of the cell whose mark stands at `at`
held_words : (ws : List ℕ) (n at : ℕ) → Placed ws n (Some at) → held (words_mean ws) n ≡ Some (take 16 (drop (at + 1) ws))
held_words ws n at p =
    let i = n - 1 in
    let e = held_in ws n p.cases.1 p.cases.2 in
    e ∙ taken_cell ws i (taken_mark ws i (sym (ap is_some e) ∙ p.cases.4)) ∙ ap (λ x. Some (take 16 (drop (x + 1) ws))) (sym p.cases.0)

-- `read`
pub read_none : (ws : List ℕ) (n k : ℕ) → Placed ws n None → None ≡ word_at (words_mean ws) n k
read_none ws n k p = rw p.cases refl

pub read_past : (ws : List ℕ) (n k : ℕ) → 16 ≤ k → None ≡ word_at (words_mean ws) n k
read_past ws n k h =
    let r : Option ℕ = Some (get_or (unwrap_or (held (words_mean ws) n) []) k 0) in
    let f : ltb k 16 ≡ false = le-ltb k 16 h in
    rw f (elim (is_some (held (words_mean ws) n)) as (λ b. None ≡ cond (b && false) r None) [ true ↦ refl | false ↦ refl ])

pub read_lying : (ws : List ℕ) (cs : List (List ℕ)) (n i k : ℕ) (c : List ℕ) → cs ≡ cells_in ws → i < cells_of ws → c ≡ get_or cs i c → n ≡ i + 1 → (get_or c 0 0 ≡ 0 → ⊥) → k < 16
    → Some (get_or c (k + 1) 0) ≡ word_at (words_mean ws) n k
read_lying ws cs n i k c e h is a t l =
    let m = mark_read ws cs i c e h is in
    let p = place_taken ws n i a h (λ z. t (m ∙ z)) in
    let w : get_or c (k + 1) 0 ≡ get_or ws (17 * i + (1 + k)) 0 =
    ap (λ x. get_or x (k + 1) 0) (is ∙ ap (λ l. get_or l i c) e ∙ chunk_at (cells_of ws) i ws c h) ∙ get_or-take 17 (drop (17 * i) ws) (k + 1) 0 (omega arith)
    ∙ get_or-drop (17 * i) ws (k + 1) 0 ∙ ap (λ x. get_or ws x 0) (let z : 17 * i + (k + 1) ≡ 17 * i + (1 + k) = omega arith in z) in
    ap Some (w ∙ sym (word_in ws i k l)) ∙ sym (word_taken (words_mean ws) n k (take 16 (drop (17 * i + 1) ws)) (held_words ws n (17 * i) p) l)

-- `write`
pub write_words : (ws ws' : List ℕ) (n at k w : ℕ) → Placed ws n (Some at) → k < 16 → ws' ≡ paste ws (at + 1 + k) (w ∷ []) 1
    → Writes (words_mean ws) n k w true (words_mean ws') × (leftover ws' ≡ leftover ws)
write_words ws ws' n at k w p l is' =
    let i = n - 1 in
    let new = set ws (at + 1 + k) w in
    let a : at ≡ 17 * i = p.cases.0 in
    let f : Frame ws new i = frame_set ws i (at + 1 + k) w (omega arith) (omega arith) in
    let h = held_in ws n p.cases.1 p.cases.2 in
    let full : mark_of ws i ≡ 0 → ⊥ = taken_mark ws i (sym (ap is_some h) ∙ p.cases.4) in
    let mark : mark_of new i ≡ mark_of ws i = get_or-set_other ws (at + 1 + k) (17 * i) w 0 (λ z. omega arith) in
    let words : take 16 (drop (17 * i + 1) new) ≡ set (take 16 (drop (at + 1) ws)) k w =
    ap (λ x. take 16 (drop (x + 1) new)) (sym a) ∙ ap (take 16) (drop-set-add (at + 1) ws k w) ∙ take-set-lt 16 (drop (at + 1) ws) k w l in
    let c : Cell = Some (set (unwrap_or (held (words_mean ws) n) []) k w) in
    let is : cell_of new i ≡ c =
    taken_cell new i (λ z. full (sym mark ∙ z)) ∙ ap Some words ∙ ap (λ x. Some (set (unwrap_or x []) k w)) (sym (held_words ws n at p)) in
    rw (is', paste_one ws (at + 1 + k) w (omega (arith, p.cases.3))) (
      writes _ _ _ _ _ _ (sym (ap (λ b. b && ltb k 16) p.cases.4 ∙ lt-ltb k 16 l))
          (changes ws new n (words_mean ws).free (held (words_mean ws) n) c f p.cases.1 p.cases.2 refl is (ap (λ b. (words_mean ws).free + cond (not b) 1 0) p.cases.4)),
      leftover_kept ws new i f p.cases.2,
    )

-- `clear`
pub clear_step : (ws : List ℕ) (i : ℕ) → i < cells_of ws → ((k : ℕ) → k < i → mark_of ws k ≡ 0)
    → ((k : ℕ) → k < i + 1 → mark_of (set ws (17 * i) 0) k ≡ 0) × (leftover (set ws (17 * i) 0) ≡ leftover ws)
clear_step ws i l h =
    let f : Frame ws (set ws (17 * i) 0) i = frame_set ws i (17 * i) 0 (omega arith) (omega arith) in (
      below_more (λ k. mark_of (set ws (17 * i) 0) k ≡ 0) i
          (λ k m. f.below (17 * k) (omega arith) ∙ h k m)
          (get_or-set_same ws (17 * i) 0 0 (omega (arith, cells_fit ws i l))),
      leftover_kept ws (set ws (17 * i) 0) i f l,
    )

count_all : (n : ℕ) → count_by is_free (replicate n None) ≡ n
count_all zero = refl
count_all (suc n) = omega (arith, count_all n, sum_by-cons spare None (replicate n None))

pub all_clear : (ws ws' : List ℕ) → length ws' ≡ length ws → ((k : ℕ) → k < cells_of ws → mark_of ws' k ≡ 0) → words_mean ws' ≡ all_free (cells_of ws)
unfolding words_mean
all_clear ws ws' long h =
    let n = cells_of ws in
    let many : cells_of ws' ≡ n = same_count ws ws' long in
    let e : in_words ws' ≡ replicate n None = ext_get_or None (in_words ws') (replicate n None) (length_in ws' ∙ many ∙ sym (length-replicate n None))
    (λ i l.
    let k : i < n = omega (arith, length_in ws') in
    get_or_in ws' i (omega arith) ∙ free_cell ws' i (h i k) ∙ sym (get_or-replicate n i None None k)) in
    same_meaning (in_words ws') (replicate n None) (count_by is_free (in_words ws')) n e (ap (count_by is_free) e ∙ count_all n)

-- the own pool's words at its making
pub own_clear : words_mean (replicate 1088 0) ≡ all_free 64
own_clear = all_clear (replicate 1088 0) (replicate 1088 0) refl (λ k h. get_or-replicate 1088 (17 * k) 0 0 (let l : k < 64 = h in omega arith))

-- `count`
count_same : (cs : List (List ℕ)) (ds : List Cell) → length cs ≡ length ds → ((i : ℕ) → i < length cs → unmarked (get_or cs i []) ≡ is_free (get_or ds i None))
    → count_by unmarked cs ≡ count_by is_free ds
count_same [] [] l h = refl
count_same [] (d ∷ ds) l h = absurd (omega arith)
count_same (c ∷ cs) [] l h = absurd (omega arith)
count_same (c ∷ cs) (d ∷ ds) l h =
    let one : cond (unmarked c) 1 0 ≡ spare d = ap (λ b. cond b 1 0) (h 0 (omega arith)) in
    let rest = count_same cs ds (omega arith) (λ i k. h (suc i) (omega arith)) in
    omega (arith, one, rest, sum_by-cons (λ x. cond (unmarked x) 1 0) c cs, sum_by-cons spare d ds)

pub count_cells : (ws : List ℕ) (cs : List (List ℕ)) → cs ≡ cells_in ws → count_by unmarked cs ≡ (words_mean ws).free
unfolding words_mean
count_cells ws cs is =
    ap (count_by unmarked) is ∙ count_same (cells_in ws) (in_words ws) (length_chunks (cells_of ws) ws ∙ sym (length_in ws))
    (λ i l.
    let k : i < cells_of ws = omega (arith, length_chunks (cells_of ws) ws) in
    ap (λ m. eqb m 0) (chunk_mark ws i [] k) ∙ free_marked ws i ∙ ap is_free (sym (get_or_in ws i k)))
