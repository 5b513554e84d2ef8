-- What a number is written as: its length, that it is read back, that no form is shorter, and the writing of it byte by byte.
use Rattle.std.proofs.Common.{◌≡◌, ℕ, zero, suc, ◌+◌, ◌-◌, ◌*◌, ◌/◌, ◌%◌, ◌^◌, ◌<◌, ◌≤◌, max, ◌⊎◌, List, [], ◌∷◌, ◌++◌, length, get_or, take, drop, set, sym, refl, ap, ◌∙◌, subst, ap₂, inl, inr, pow-suc, arith, drop_at, pow_mono, pow-add, shr_lt, le-ltb, lt-ltb, le-leb}
use Rattle.std.proofs.lemmas.Bool.{cases_lt}
use lib.Seq.{sets, sets-eq, set-append_seam}
use lib.Count.{count_leading_zeros, leading_length}
use borrow.Author.Tests.{lt-leb}
use Rattle.codec.specs.Number.{Numeral, got, ended, overlong, before, numeral, number, spelling, written}
use Rattle.codec.specs.Reading.{done, begun, number_at}
use Rattle.std.proofs.lemmas.List.{append_assoc, drop-drop, drop_all, drop_more, length-append, length-take-le, take_all, take_more_set}

pub one_byte : (left n : ℕ) → n < 128 → spelling left n ≡ n ∷ []
unfolding spelling
one_byte zero n h = refl
one_byte (suc left) n h = rw (lt-ltb n 128 h) refl

pub more_bytes : (left n : ℕ) → 128 ≤ n → spelling (suc left) n ≡ (n % 128 + 128) ∷ spelling left (n / 128)
unfolding spelling
more_bytes left n h = rw (le-ltb n 128 h) refl

few_bits : (n m : ℕ) → n < 128 → 2 ^ m ≤ 2 * n + 1 → m ≤ 7
few_bits n m h l = go (cases_lt m 8)
  where
    go : (m < 8) ⊎ (8 ≤ m) → m ≤ 7
    go (inl b) = omega arith
    go (inr b) = absurd (omega (arith, pow_mono {i = 8} {j = m} b))

many_bits : (n m : ℕ) → 128 ≤ n → n < 2 ^ m → 8 ≤ m
many_bits n m h l = go (cases_lt m 8)
  where
    go : (m < 8) ⊎ (8 ≤ m) → 8 ≤ m
    go (inr b) = b
    go (inl b) = absurd (omega (arith, pow_mono {i = m} {j = 7} (omega arith)))

-- the length in groups, from the length in bits
pub length_by_bits : (left n m : ℕ) → n < 2 ^ m → 2 ^ m ≤ 2 * n + 1 → m ≤ 7 * (left + 1) → length (spelling left n) ≡ max ((m + 6) / 7) 1
unfolding spelling
length_by_bits zero n m h l f = omega arith
length_by_bits (suc left) n m h l f = go (length_by_bits left (n / 128) (m - 7)) (cases_lt n 128)
  where
    go : (n / 128 < 2 ^ (m - 7) → 2 ^ (m - 7) ≤ 2 * (n / 128) + 1 → m - 7 ≤ 7 * (left + 1) → length (spelling left (n / 128)) ≡ max ((m - 7 + 6) / 7) 1)
        → (n < 128) ⊎ (128 ≤ n) → length (spelling (suc left) n) ≡ max ((m + 6) / 7) 1
    go ih (inl s) =
        let few : m ≤ 7 = few_bits n m s l in
        ap length (one_byte (suc left) n s) ∙ omega arith
    go ih (inr s) =
        let many : 8 ≤ m = many_bits n m s h in
        let split : m ≡ (m - 7) + 7 = omega arith in
        let e : 2 ^ m ≡ 2 ^ (m - 7) * 128 = ap (λ x. 2 ^ x) split ∙ pow-add 2 (m - 7) 7 in
        ap length (more_bytes left n s) ∙ ap suc (ih (omega (arith, e)) (omega (arith, e)) (omega arith)) ∙ omega arith

pub length_by_zeros : (n : ℕ) → n < 2 ^ 32 → length (written n) ≡ max ((32 - count_leading_zeros 32 n + 6) / 7) 1
length_by_zeros n h =
    let t = leading_length 32 n h in
    let e : t.0 ≡ 32 - count_leading_zeros 32 n = omega (arith, t.1) in
    length_by_bits 4 n t.0 t.2 t.3 (omega (arith, t.1)) ∙ ap (λ m. max ((m + 6) / 7) 1) e

-- what is written is read again, whatever follows
pub read_spelling : (left n : ℕ) (rest : List ℕ) → n < 16 * 128 ^ left → numeral left (spelling left n ++ rest) ≡ got n (length (spelling left n))
unfolding numeral spelling
read_spelling zero n rest h = rw (le-leb n 15 (omega arith)) refl
read_spelling (suc left) n rest h = go (read_spelling left (n / 128) rest) (cases_lt n 128)
  where
    go : (n / 128 < 16 * 128 ^ left → numeral left (spelling left (n / 128) ++ rest) ≡ got (n / 128) (length (spelling left (n / 128))))
        → (n < 128) ⊎ (128 ≤ n) → numeral (suc left) (spelling (suc left) n ++ rest) ≡ got n (length (spelling (suc left) n))
    go ih (inl s) = rw (lt-ltb n 128 s) (rw (lt-ltb n 128 s) refl)
    go ih (inr s) =
        let p = pow-suc 128 left in
        rw (le-ltb n 128 s)
        (rw (le-ltb (n % 128 + 128) 128 (omega arith))
        (ap (before ((n % 128 + 128) % 128)) (ih (omega (arith, p)))
        ∙ ap (λ v. got v (suc (length (spelling left (n / 128))))) (omega arith)))

pub read_written : (n : ℕ) (rest : List ℕ) → n < 2 ^ 32 → number (written n ++ rest) ≡ got n (length (written n))
read_written n rest h = read_spelling 4 n rest h

pub some_bytes : (left n : ℕ) → 0 < length (spelling left n)
unfolding spelling
some_bytes zero n = omega arith
some_bytes (suc left) n = go (cases_lt n 128)
  where
    go : (n < 128) ⊎ (128 ≤ n) → 0 < length (spelling (suc left) n)
    go (inl s) = omega (arith, ap length (one_byte (suc left) n s))
    go (inr s) = omega (arith, ap length (more_bytes left n s))

-- a spelling of two bytes or more is that of a number above one byte, with room for another
two_bytes : (left n : ℕ) → 2 ≤ length (spelling left n) → (0 < left) × (128 ≤ n)
unfolding spelling
two_bytes zero n h = absurd (omega arith)
two_bytes (suc left) n h = go (cases_lt n 128)
  where
    go : (n < 128) ⊎ (128 ≤ n) → (0 < suc left) × (128 ≤ n)
    go (inl s) = absurd (omega (arith, ap length (one_byte (suc left) n s)))
    go (inr s) = (omega arith, s)

-- where the writing of n stands, after k groups: those are in the first of the slots, and `rest` is still to be written
pub record Writing (n : ℕ) (slots : List ℕ) (k rest : ℕ) : Type 0 where
  pub spelt : take k slots ++ spelling (4 - k) rest ≡ written n
  pub few : k ≤ 4
  pub small : rest < 2 ^ (32 - 7 * k)

pub writing_none : (n : ℕ) (slots : List ℕ) → n < 2 ^ 32 → Writing n slots 0 n
writing_none n slots h = record { spelt = refl; few = omega arith; small = h }

left_over : (n : ℕ) (slots : List ℕ) (k rest : ℕ) → Writing n slots k rest → k ≤ length slots → k + length (spelling (4 - k) rest) ≡ length (written n)
left_over n slots k rest w h =
    omega (arith, ap length w.spelt, length-append (take k slots) (spelling (4 - k) rest), length-take-le k slots h)

pub writing_more : (n : ℕ) (slots : List ℕ) (k rest : ℕ) → Writing n slots k rest → k < length slots → length slots + 1 ≡ length (written n)
    → Writing n (set slots k (rest % 128 + 128)) (k + 1) (rest / 128)
writing_more n slots k rest w l f =
    let two = two_bytes (4 - k) rest (omega (arith, left_over n slots k rest w (omega arith))) in
    let left : 4 - k ≡ suc (4 - (k + 1)) = omega (arith, two.0) in
    let b = rest % 128 + 128 in
    let e : spelling (4 - k) rest ≡ b ∷ spelling (4 - (k + 1)) (rest / 128) = ap (λ x. spelling x rest) left ∙ more_bytes (4 - (k + 1)) rest two.1 in
    let split : 32 - 7 * k ≡ (32 - 7 * (k + 1)) + 7 = omega (arith, two.0) in
    record {
      spelt = ap (λ xs. xs ++ spelling (4 - (k + 1)) (rest / 128)) (take_more_set slots k b l) ∙ append_assoc (take k slots) (b ∷ []) _
          ∙ ap (λ xs. take k slots ++ xs) (sym e) ∙ w.spelt;
      few = omega (arith, two.0);
      small = shr_lt (32 - 7 * (k + 1)) 7 (subst (λ x. rest < 2 ^ x) split w.small);
    }

-- one byte is left, where all slots but one are filled
pub writing_last : (n : ℕ) (slots : List ℕ) (k rest : ℕ) → Writing n slots k rest → length slots ≡ k → k + 1 ≡ length (written n)
    → (rest < 128) × (slots ++ rest ∷ [] ≡ written n)
writing_last n slots k rest w l f = go (cases_lt rest 128) (cases_lt k 4)
  where
    ends : rest < 128 → (rest < 128) × (slots ++ rest ∷ [] ≡ written n)
    ends b = (b, ap₂ (λ xs ys. xs ++ ys) (sym (take_all k slots (omega arith))) (sym (one_byte (4 - k) rest b)) ∙ w.spelt)

    go : (rest < 128) ⊎ (128 ≤ rest) → (k < 4) ⊎ (4 ≤ k) → (rest < 128) × (slots ++ rest ∷ [] ≡ written n)
    go (inl b) h = ends b
    go (inr b) (inl h) =
        let left : 4 - k ≡ suc (4 - (k + 1)) = omega arith in
        let e = ap (λ x. length (spelling x rest)) left ∙ ap length (more_bytes (4 - (k + 1)) rest b) in
        absurd (omega (arith, left_over n slots k rest w (omega arith), e, some_bytes (4 - (k + 1)) (rest / 128)))
    go (inr b) (inr h) =
        let four : k ≡ 4 = omega (arith, w.few) in
        absurd (omega (arith, w.small, ap (λ x. 2 ^ (32 - 7 * x)) four))

-- all slots but the last are those given, and the last is set
pub last_set : (front slots : List ℕ) (last y : ℕ) → length front ≡ last → length slots ≡ last + 1 → set (front ++ drop last slots) last y ≡ front ++ y ∷ []
last_set front slots last y e f =
    ap (λ xs. set (front ++ xs) last y) (drop_more slots last 0 (omega arith) ∙ ap (λ xs. get_or slots last 0 ∷ xs) (drop_all (last + 1) slots (omega arith)))
    ∙ ap (λ i. set (front ++ get_or slots last 0 ∷ []) i y) (sym e) ∙ set-append_seam front (get_or slots last 0) [] y

-- an area, with the bytes in the place of as many from `start` on
pub put_there : (area bs : List ℕ) (start k : ℕ) → start + length bs ≤ length area → k ≡ length bs → take start area ++ (bs ++ drop k (drop start area)) ≡ sets area start bs
put_there area bs start k h e =
    ap (λ xs. take start area ++ (bs ++ xs)) (ap (λ j. drop j (drop start area)) e ∙ drop-drop (length bs) start area)
    ∙ sym (append_assoc (take start area) bs _) ∙ sym (sets-eq bs area start h)

-- what is written into an area is read from it again
pub read_area : (area : List ℕ) (start n : ℕ) → n < 2 ^ 32 → start + length (written n) ≤ length area
    → number_at (sets area start (written n)) start ≡ done n (start + length (written n))
unfolding number_at
read_area area start n h f =
    let e : drop start (sets area start (written n)) ≡ written n ++ drop (start + length (written n)) area =
    ap (drop start) (sets-eq (written n) area start f ∙ append_assoc (take start area) (written n) _) ∙ drop_at (take start area) _ start (length-take-le start area (omega arith)) in
    ap (λ bs. begun (number bs) start) e ∙ ap (λ r. begun r start) (read_written n _ h)

-- what holds of a number that was read
abbrev Got : (ℕ → ℕ → Type 0) → Numeral → Type 0
Got P (got v k) = P v k
Got P ended = Unit {0}
Got P overlong = Unit {0}

-- a number took no fewer bytes than it is written in
abbrev Short : ℕ → ℕ → ℕ → Type 0
Short most v k = length (spelling most v) ≤ k

one_more : (most g v k : ℕ) → g < 128 → Short most v k → Short (suc most) (g + 128 * v) (suc k)
one_more most g v k h b = go (cases_lt (g + 128 * v) 128)
  where
    go : (g + 128 * v < 128) ⊎ (128 ≤ g + 128 * v) → length (spelling (suc most) (g + 128 * v)) ≤ suc k
    go (inl s) = omega (arith, ap length (one_byte (suc most) (g + 128 * v) s))
    go (inr s) =
        let q : (g + 128 * v) / 128 ≡ v = omega arith in
        omega (arith, ap length (more_bytes most (g + 128 * v) s), ap (λ n. length (spelling most n)) q, b)

short_before : (most g : ℕ) (r : Numeral) → g < 128 → Got (Short most) r → Got (Short (suc most)) (before g r)
short_before most g (got v k) h b = one_more most g v k h b
short_before most g ended h b = tt
short_before most g overlong h b = tt

short : (most : ℕ) (bs : List ℕ) → Got (Short most) (numeral most bs)
unfolding numeral spelling
short zero [] = tt
short (suc most) [] = tt
short zero (b ∷ bs) = go (cases_lt 15 b)
  where
    go : (15 < b) ⊎ (b ≤ 15) → Got (Short zero) (numeral zero (b ∷ bs))
    go (inl s) = rw (lt-leb b 15 s) tt
    go (inr s) = rw (le-leb b 15 s) (omega arith)
short (suc most) (b ∷ bs) = go (short most bs) (cases_lt b 128)
  where
    go : Got (Short most) (numeral most bs) → (b < 128) ⊎ (128 ≤ b) → Got (Short (suc most)) (numeral (suc most) (b ∷ bs))
    go r (inl s) = rw (lt-ltb b 128 s) (omega (arith, ap length (one_byte (suc most) b s)))
    go r (inr s) = rw (le-ltb b 128 s) (short_before most (b % 128) (numeral most bs) (omega arith) r)

-- no byte string that reads as a number is shorter than the one that it is written as
pub written_shortest : (bs : List ℕ) (n used : ℕ) → number bs ≡ got n used → length (written n) ≤ used
written_shortest bs n used e = subst (Got (Short 4)) e (short 4 bs)
