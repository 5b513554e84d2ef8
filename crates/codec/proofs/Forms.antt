-- What the reading of a number finds is what stands there, by the definition of a number's forms.
use Rattle.std.proofs.Common.{◌≡◌, ℕ, zero, suc, ◌+◌, ◌-◌, ◌*◌, ◌%◌, ◌^◌, ◌<◌, ◌≤◌, ◌⊎◌, List, [], ◌∷◌, length, get_or, take, sym, refl, ap, ◌∙◌, inl, inr, pow-suc, arith, le-ltb, lt-ltb, le-leb}
use native.Mathlib.Nat.{one-le-pow}
use borrow.Author.Tests.{lt-leb}
use Rattle.std.proofs.lemmas.Bool.{cases_lt}
use Rattle.codec.specs.Number.{Continued, Form, Numeral, Right, before, ended, got, numeral, overlong, value_of}

-- one byte more at the front that has its top bit set
continued : (n b : ℕ) (bs : List ℕ) → 128 ≤ b → Continued n bs → Continued (suc n) (b ∷ bs)
continued n b bs h c zero l = h
continued n b bs h c (suc i) l = c i (omega arith)

longer : (most b : ℕ) (bs : List ℕ) (v used : ℕ) → 128 ≤ b → Form most bs v used → Form (suc most) (b ∷ bs) (b % 128 + 128 * v) (suc used)
unfolding value_of
longer most b bs v used h f =
    record {
      some = omega arith;
      few = omega (arith, f.few);
      there = omega (arith, f.there);
      more = more;
      last = last;
      full = λ e. f.full (omega arith);
      value = let e = f.value in omega arith;
    }
  where
    more : (i : ℕ) → i + 1 < suc used → 128 ≤ get_or (b ∷ bs) i 0
    more zero k = h
    more (suc i) k = f.more i (omega arith)

    last : (i : ℕ) → i + 1 ≡ suc used → get_or (b ∷ bs) i 0 < 128
    last zero e = absurd (omega (arith, f.some))
    last (suc i) e = f.last i (omega arith)

right_before : (most b : ℕ) (bs : List ℕ) (r : Numeral) → 128 ≤ b → Right most bs r → Right (suc most) (b ∷ bs) (before (b % 128) r)
right_before most b bs (got v k) h (f, s) = (longer most b bs v k h f, omega (arith, pow-suc 128 most, s))
right_before most b bs ended h (n, c) = (omega arith, continued (length bs) b bs h c)
right_before most b bs overlong h (c, o) = (continued most b bs h c, o)

-- a number of one byte
one : (most b : ℕ) (bs : List ℕ) → b < 128 → (most ≡ 0 → b ≤ 15) → Right most (b ∷ bs) (got b 1)
unfolding value_of
one most b bs h l = (record { some = omega arith; few = omega arith; there = omega arith; more = λ i k. absurd (omega arith); last = last; full = full most l; value = omega arith }, small most l)
  where
    last : (i : ℕ) → i + 1 ≡ 1 → get_or (b ∷ bs) i 0 < 128
    last zero e = h
    last (suc i) e = absurd (omega arith)

    full : (most : ℕ) → (most ≡ 0 → b ≤ 15) → 1 ≡ most + 1 → get_or (b ∷ bs) most 0 ≤ 15
    full zero l e = l refl
    full (suc most) l e = absurd (omega arith)

    small : (most : ℕ) → (most ≡ 0 → b ≤ 15) → b < 16 * 128 ^ most
    small zero l = let b15 = l refl in omega arith
    small (suc most) l = omega (arith, pow-suc 128 most, one-le-pow most 128 (omega arith))

-- what is found is right
pub right : (most : ℕ) (bs : List ℕ) → Right most bs (numeral most bs)
unfolding numeral
right zero [] = (omega arith, λ i l. absurd (omega arith))
right (suc most) [] = (omega arith, λ i l. absurd (omega arith))
right zero (b ∷ bs) = go (cases_lt 15 b)
  where
    go : (15 < b) ⊎ (b ≤ 15) → Right zero (b ∷ bs) (numeral zero (b ∷ bs))
    go (inl s) = rw (lt-leb b 15 s) (λ i l. absurd (omega arith), s)
    go (inr s) = rw (le-leb b 15 s) (one zero b bs (omega arith) (λ e. s))
right (suc most) (b ∷ bs) = go (right most bs) (cases_lt b 128)
  where
    go : Right most bs (numeral most bs) → (b < 128) ⊎ (128 ≤ b) → Right (suc most) (b ∷ bs) (numeral (suc most) (b ∷ bs))
    go r (inl s) = rw (lt-ltb b 128 s) (one (suc most) b bs s (λ e. absurd (omega arith)))
    go r (inr s) = rw (le-ltb b 128 s) (right_before most b bs (numeral most bs) s r)

-- the last byte of a form is where the top bit is clear first
no_earlier : (most : ℕ) (bs : List ℕ) (v used n : ℕ) → Form most bs v used → Continued n bs → n < used
no_earlier most bs v used n f c = go (cases_lt n used)
  where
    go : (n < used) ⊎ (used ≤ n) → n < used
    go (inl l) = l
    go (inr l) = absurd (omega (arith, f.some, f.last (used - 1) (omega (arith, f.some)), c (used - 1) (omega (arith, f.some))))

front_of : (most : ℕ) (bs : List ℕ) (v used : ℕ) → Form most bs v used → Continued (used - 1) bs
front_of most bs v used f i l = f.more i (omega arith)

only : (most : ℕ) (bs : List ℕ) (v used : ℕ) → Form most bs v used → (r : Numeral) → Right most bs r → r ≡ got v used
only most bs v used f (got w k) (g, s) =
    let a = no_earlier most bs v used (k - 1) f (front_of most bs w k g) in
    let b = no_earlier most bs w k (used - 1) g (front_of most bs v used f) in
    let e : k ≡ used = omega (arith, f.some, g.some) in
    ap (λ n. got n k) (g.value ∙ ap (λ n. value_of (take n bs)) e ∙ sym f.value) ∙ ap (got v) e
only most bs v used f ended (n, c) = absurd (omega (arith, no_earlier most bs v used (length bs) f c, f.there))
only most bs v used f overlong (c, o) =
    let full : used ≡ most + 1 = omega (arith, no_earlier most bs v used most f c, f.few) in
    absurd (omega (arith, f.full full))

-- every form is read, the longer ones too
pub form_read : (most : ℕ) (bs : List ℕ) (v used : ℕ) → Form most bs v used → numeral most bs ≡ got v used
form_read most bs v used f = only most bs v used f (numeral most bs) (right most bs)
