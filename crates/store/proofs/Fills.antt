-- A cell is taken and filled word by word, and words are read from one; numbers are read with a default.
use Rattle.std.proofs.Common.{◌≡◌, ℕ, ◌+◌, ◌-◌, ◌<◌, ◌≤◌, Bool, true, false, cond, ◌&&◌, ltb, ◌≢◌, List, [], length, get_or, drop, set, is_some, Some, None, Option, Result, unwrap_or, sym, refl, ap, ◌∙◌, subst, arith, length-drop, length-set, below_more}
use Rattle.std.proofs.lemmas.List.{get_or-set_same, get_or-set_other, ext_get_or}
use Rattle.std.proofs.lemmas.Bool.{lt-ltb}
use Rattle.std.specs.Result.{result_unwrap_or}
use Rattle.codec.specs.Number.{Numeral, got, ended, overlong, number, Right}
use Rattle.codec.specs.Reading.{Finds, begun, found, number_at}
use Rattle.codec.specs.declared.fault.Refusal.{Refusal}
use Rattle.pool.specs.Pools.{Cell, Meaning, held, limit, Lawful, zeros, Takes, Writes, word_at}
use Rattle.pool.proofs.Laws.{held_same, held_other, held_long, took, write_taken}
use Rattle.store.specs.Building.{Fresh}
use Rattle.store.specs.Layout.{one, used, words_of}
use Rattle.store.specs.Spelling.{read_from}
use Rattle.store.proofs.Tops.{never}

-- ---- a number, or 0 where there is none

-- what is read so: the number that begins there, if any, and then the place is a later one
pub record Read (at : ℕ) (bs : List ℕ) (n : Numeral) (x : ℕ × ℕ) : Type 0 where
  pub is : x ≡ read_from at n
  pub on : at ≤ x.1
  pub past : 0 < x.0 → (at < x.1) × (at < length bs)

read_any : (at : ℕ) (bs : List ℕ) (n : Numeral) → Right 4 (drop at bs) n → Read at bs n (result_unwrap_or (found (begun n at)) (0, at))
read_any at bs (got v n) w = record { is = refl; on = omega arith; past = λ _. (omega (arith, w.0.some), omega (arith, w.0.some, w.0.there, length-drop at bs)) }
read_any at bs ended w = record { is = refl; on = omega arith; past = λ z. absurd (omega (arith, z)) }
read_any at bs overlong w = record { is = refl; on = omega arith; past = λ z. absurd (omega (arith, z)) }

pub read_or : (at : ℕ) (bs : List ℕ) (r : Result (ℕ × ℕ) Refusal) (x : ℕ × ℕ) → Finds bs at r → x ≡ result_unwrap_or r (0, at) → Read at bs (number (drop at bs)) x
unfolding number_at
read_or at bs r x f e =
    subst (Read at bs (number (drop at bs))) (sym (e ∙ ap (λ r. result_unwrap_or r (0, at)) f.answer)) (read_any at bs (number (drop at bs)) f.right)

-- ---- the words of a cell are read

word_is : (x : Cell) (k : ℕ) (b : Bool) → b ≡ true → unwrap_or (cond (is_some x && b) (Some (get_or (unwrap_or x []) k 0)) None) 0 ≡ get_or (unwrap_or x []) k 0
word_is None k true e = refl
word_is (Some ws) k true e = refl
word_is x k false e = never (cc)

pub read_word : (m : Meaning) (c k w : ℕ) (o : Option ℕ) → k < 16 → o ≡ word_at m c k → w ≡ unwrap_or o 0 → w ≡ get_or (words_of m c) k 0
read_word m c k w o l r e = e ∙ ap (λ o. unwrap_or o 0) r ∙ word_is (held m c) k (ltb k 16) (lt-ltb k 16 l)

used_taken : (x : Cell) → one (is_some x) ≡ 1 → is_some x ≡ true
used_taken None e = absurd (omega (arith, e))
used_taken (Some ws) e = refl

pub words_long : (m : Meaning) (c : ℕ) → Lawful m → used m c ≡ 1 → length (words_of m c) ≡ 16
words_long m c l u = held_long m c l (used_taken (held m c) u)

-- ---- a cell is filled

-- the cell c, just taken, holds the first k of the words
pub record Filling (m : Meaning) (c : ℕ) (ws : List ℕ) (k : ℕ) (m' : Meaning) : Type 0 where
  pub low : 1 ≤ c
  pub high : c ≤ limit m'
  pub bound : limit m' ≡ limit m
  pub count : m'.free ≡ m.free
  pub others : (i : ℕ) → i ≢ c → held m' i ≡ held m i
  pub words : List ℕ
  pub holds : held m' c ≡ Some words
  pub long : length words ≡ 16
  pub same : (i : ℕ) → i < k → get_or words i 0 ≡ get_or ws i 0

pub filling_none : (m₀ m : Meaning) (c : ℕ) (ws : List ℕ) → Takes m₀ (Some c) m → Filling m c ws 0 m
filling_none m₀ m c ws t = record {
  low = t.cases.low;
  high = omega (arith, t.cases.high, t.bound);
  bound = refl;
  count = refl;
  others = λ i e. refl;
  words = zeros;
  holds = took m₀ m c t;
  long = refl;
  same = λ i h. absurd (omega arith);
}

pub filling_more : (m m' m'' : Meaning) (c k w : ℕ) (ws : List ℕ) (r : Bool) → Filling m c ws k m' → Writes m' c k w r m'' → k < 16 → w ≡ get_or ws k 0 → Filling m c ws (k + 1) m''
filling_more m m' m'' c k w ws r f v l e =
    let q = (write_taken m' m'' c k w r f.words f.holds l v).1 in
    record {
      low = f.low;
      high = omega (arith, f.high, v.bound);
      bound = v.bound ∙ f.bound;
      count = ap (λ x. x.free) q ∙ f.count;
      others = λ i n. ap (λ x. held x i) q ∙ held_other m' c i m'.free (Some (set f.words k w)) f.low n ∙ f.others i n;
      words = set f.words k w;
      holds = ap (λ x. held x c) q ∙ held_same m' c m'.free (Some (set f.words k w)) f.low f.high;
      long = length-set f.words k w ∙ f.long;
      same = below_more _ _
          (λ i h. get_or-set_other f.words k i w 0 (λ s. omega arith) ∙ f.same i h)
          (get_or-set_same f.words k w 0 (omega (arith, f.long)) ∙ e);
    }

pub filled : (m₀ m m' : Meaning) (c k : ℕ) (ws : List ℕ) → Takes m₀ (Some c) m → Filling m c ws k m' → 16 ≤ k → length ws ≡ 16 → Fresh m₀ ws c m'
filled m₀ m m' c k ws t f h₁ l = record {
  new = ap (λ x. one (is_some x)) t.cases.fresh;
  holds = f.holds ∙ ap Some (ext_get_or 0 f.words ws (f.long ∙ sym l) (λ i h. f.same i (omega (arith, f.long))));
  others = λ i n. f.others i n ∙ ap (λ x. held x i) t.cases.after ∙ held_other m₀ c i (m₀.free - 1) (Some zeros) t.cases.low n;
  count = omega (arith, f.count, ap (λ x. x.free) t.cases.after, t.cases.spare);
  bound = f.bound ∙ t.bound;
}
