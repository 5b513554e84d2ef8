-- Words are read from a cell and written into one, word by word.
use Rattle.std.proofs.Common.{◌≡◌, ℕ, ◌+◌, ◌<◌, ◌≤◌, Bool, true, false, cond, ◌&&◌, ltb, ◌≢◌, List, [], length, get_or, set, is_some, Some, None, Option, unwrap_or, sym, refl, ap, ◌∙◌, zero-add, arith, length-set, below_more}
use Rattle.std.proofs.Common.{rules, ◌-◌}
use borrow.Rule.Slice.PartMut.{put_mid}
use Rattle.std.proofs.lemmas.List.{get_or-set_same, get_or-set_other, places}
use Rattle.std.proofs.lemmas.Slice.{overwrites}
use Rattle.std.proofs.lemmas.Bool.{lt-ltb}
use Rattle.acts.specs.Effects.{Kept}
use Rattle.pool.specs.Pools.{Cell, Meaning, held, limit, Lawful, Writes, word_at}
use Rattle.pool.proofs.Laws.{held_same, held_other, held_long, taken_low, taken_high, write_taken}
use Rattle.store.specs.Layout.{one, used, words_of}
use Rattle.operations.specs.Fetching.{Fetched}

-- ---- a cell is read

word_is : (x : Cell) (k : ℕ) (b : Bool) → b ≡ true → unwrap_or (cond (is_some x && b) (Some (get_or (unwrap_or x []) k 0)) None) 0 ≡ get_or (unwrap_or x []) k 0
word_is None k true e = refl
word_is (Some ws) k true e = refl
word_is x k false e = cc

read_word : (m : Meaning) (c k w : ℕ) (o : Option ℕ) → k < 16 → o ≡ word_at m c k → w ≡ unwrap_or o 0 → w ≡ get_or (words_of m c) k 0
read_word m c k w o l r e = e ∙ ap (λ o. unwrap_or o 0) r ∙ word_is (held m c) k (ltb k 16) (lt-ltb k 16 l)

-- the words ys begin with k words of the cell
abbrev pub Filled : Meaning → ℕ → List ℕ → ℕ → Type 0
Filled m c ys k = (q : ℕ) → q < k → get_or ys q 0 ≡ get_or (words_of m c) q 0

pub filled_more : (m : Meaning) (c : ℕ) (ys : List ℕ) (k w : ℕ) (o : Option ℕ) → k < 16 → k < length ys → o ≡ word_at m c k → w ≡ unwrap_or o 0 → Filled m c ys k
    → Filled m c (set ys k w) (k + 1)
filled_more m c ys k w o s r a e f = below_more _ _
    (λ q h. get_or-set_other ys k q w 0 (λ z. omega arith) ∙ f q h)
    (get_or-set_same ys k w 0 r ∙ read_word m c k w o s a e)

pub fetched : (m : Meaning) (c : ℕ) (xs ys : List ℕ) (into n : ℕ) → into + n ≤ length xs → length ys ≡ n → Filled m c ys n → Fetched m c xs (put_mid into (into + n - into) xs ys) into n
fetched m c xs ys into n r l f = record {
  above = record { below = λ p h. search (rules, places); long = search (rules, overwrites) };
  there = λ q h. let e : get_or (put_mid into (into + n - into) xs ys) (into + q) 0 ≡ get_or ys q 0 = search (rules, places) in e ∙ f q h ∙ ap (λ (x : ℕ). get_or (words_of m c) x 0) (sym (zero-add q));
}

-- ---- a cell is written

-- the cell c, which is taken, holds the first k words from i on
pub record Keeping (m : Meaning) (c : ℕ) (ws : List ℕ) (i k : ℕ) (m' : Meaning) : Type 0 where
  pub low : 1 ≤ c
  pub high : c ≤ limit m'
  pub bound : limit m' ≡ limit m
  pub count : m'.free ≡ m.free
  pub others : (d : ℕ) → d ≢ c → held m' d ≡ held m d
  pub words : List ℕ
  pub holds : held m' c ≡ Some words
  pub long : length words ≡ 16
  pub same : (q : ℕ) → q < k → get_or words q 0 ≡ get_or ws (i + q) 0

used_taken : (x : Cell) → one (is_some x) ≡ 1 → is_some x ≡ true
used_taken None e = absurd (omega (arith, e))
used_taken (Some ws) e = refl

taken_some : (x : Cell) → is_some x ≡ true → x ≡ Some (unwrap_or x [])
taken_some None e = cc
taken_some (Some ws) e = refl

pub keeping_none : (m : Meaning) (c : ℕ) (ws : List ℕ) (i : ℕ) → Lawful m → used m c ≡ 1 → Keeping m c ws i 0 m
keeping_none m c ws i l u =
    let t = used_taken (held m c) u in
    record {
      low = taken_low m c t;
      high = taken_high m c t;
      bound = refl;
      count = refl;
      others = λ d n. refl;
      words = unwrap_or (held m c) [];
      holds = taken_some (held m c) t;
      long = held_long m c l t;
      same = λ q h. absurd (omega arith);
    }

pub keeping_more : (m m' m'' : Meaning) (c i k w : ℕ) (ws : List ℕ) (r : Bool) → k < 16 → w ≡ get_or ws (i + k) 0 → Writes m' c k w r m''
    → Keeping m c ws i k m' → Keeping m c ws i (k + 1) m''
keeping_more m m' m'' c i k w ws r l e v f =
    let q = (write_taken m' m'' c k w r f.words f.holds l v).1 in
    record {
      low = f.low;
      high = omega (arith, f.high, v.bound);
      bound = v.bound ∙ f.bound;
      count = ap (λ x. x.free) q ∙ f.count;
      others = λ d n. ap (λ x. held x d) q ∙ held_other m' c d m'.free (Some (set f.words k w)) f.low n ∙ f.others d n;
      words = set f.words k w;
      holds = ap (λ x. held x c) q ∙ held_same m' c m'.free (Some (set f.words k w)) f.low f.high;
      long = length-set f.words k w ∙ f.long;
      same = below_more _ _
          (λ p h. get_or-set_other f.words k p w 0 (λ s. omega arith) ∙ f.same p h)
          (get_or-set_same f.words k w 0 (omega (arith, f.long)) ∙ e);
    }

pub kept : (m m' : Meaning) (c : ℕ) (ws : List ℕ) (i n k : ℕ) → n ≤ k → Keeping m c ws i k m' → Kept m c ws i n m'
kept m m' c ws i n k h f = record {
  there = λ q l. ap (λ x. get_or (unwrap_or x []) (0 + q) 0) f.holds ∙ ap (λ (x : ℕ). get_or f.words x 0) (zero-add q) ∙ f.same q (omega arith);
  taken = ap (λ x. one (is_some x)) f.holds;
  others = f.others;
  count = f.count;
  bound = f.bound;
}
