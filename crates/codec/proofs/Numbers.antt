-- The reading of a number byte by byte, and what it adds up to.
use Rattle.std.proofs.Common.{◌≡◌, ℕ, zero, suc, ◌+◌, ◌-◌, ◌*◌, ◌%◌, ◌^◌, ◌<◌, ◌≤◌, ◌⊎◌, List, ◌∷◌, length, get_or, drop, slice_range, Ok, Err, sym, refl, ap, ◌∙◌, subst, inl, inr, ap₂, mul-le-mul_right, mul_assoc, mul_comm, pow-suc, mul-add, add-one, arith, lit≤, drop-cons, w8, w32, Fits, le-ltb, lt-ltb, le-leb}
use borrow.Author.Tests.{lt-leb}
use Rattle.std.proofs.lemmas.Bool.{cases_lt}
use Rattle.std.proofs.lemmas.List.{drop_all, get_or-drop, take_rest}
use Rattle.codec.specs.Number.{Numeral, got, ended, overlong, before, numeral, number}
use Rattle.codec.specs.Reading.{Finds, begun, found, number_at}
use Rattle.codec.specs.declared.fault.Refusal.TheVariants.{Ended}
use Rattle.codec.proofs.Forms.{right, form_read}

-- a number of which groups have been read: their value, the weight of the next group and their count
abbrev pub onto : ℕ → ℕ → ℕ → Numeral → Numeral
onto a s k (got v n) = got (a + s * v) (k + n)
onto a s k ended = ended
onto a s k overlong = overlong

pub onto_none : (r : Numeral) → r ≡ onto 0 1 0 r
onto_none (got v n) = ap₂ got (omega arith) (omega arith)
onto_none ended = refl
onto_none overlong = refl

pub onto_before : (a s k g : ℕ) (r : Numeral) → onto a s k (before g r) ≡ onto (a + g * s) (s * 128) (k + 1) r
onto_before a s k g (got v n) =
    ap₂ got (omega (arith, mul-add s g (128 * v), mul_assoc s 128 v, mul_comm s g)) (omega arith)
onto_before a s k g ended = refl
onto_before a s k g overlong = refl

pub numeral_end : (left : ℕ) (xs : List ℕ) (i : ℕ) → length xs ≤ i → numeral left (drop i xs) ≡ ended
unfolding numeral
numeral_end zero xs i h = rw (drop_all i xs h) refl
numeral_end (suc left) xs i h = rw (drop_all i xs h) refl

front : (left : ℕ) (xs : List ℕ) (i : ℕ) → i < length xs → numeral left (drop i xs) ≡ numeral left (get_or xs i 0 ∷ drop (i + 1) xs)
front left xs i h = ap (numeral left) (rw (add-one, drop-cons xs i 0 h))

pub numeral_last : (left : ℕ) (xs : List ℕ) (i : ℕ) → i < length xs → get_or xs i 0 < 128 → numeral (suc left) (drop i xs) ≡ got (get_or xs i 0) 1
unfolding numeral
numeral_last left xs i h b = front (suc left) xs i h ∙ rw (lt-ltb _ _ b) refl

pub numeral_more : (left : ℕ) (xs : List ℕ) (i : ℕ) → i < length xs → 128 ≤ get_or xs i 0
    → numeral (suc left) (drop i xs) ≡ before (get_or xs i 0 % 128) (numeral left (drop (i + 1) xs))
unfolding numeral
numeral_more left xs i h b = front (suc left) xs i h ∙ rw (le-ltb _ _ b) refl

pub fifth : (xs : List ℕ) (i : ℕ) → i < length xs → get_or xs i 0 ≤ 15 → numeral 0 (drop i xs) ≡ got (get_or xs i 0) 1
unfolding numeral
fifth xs i h b = front 0 xs i h ∙ rw (le-leb _ _ b) refl

pub fifth_over : (xs : List ℕ) (i : ℕ) → i < length xs → 15 < get_or xs i 0 → numeral 0 (drop i xs) ≡ overlong
unfolding numeral
fifth_over xs i h b = front 0 xs i h ∙ rw (lt-leb _ _ b) refl

-- the weight of one of the first four groups
pub weight : (k : ℕ) → k < 4 → 128 ^ k ≤ 2097152
weight zero h = lit≤ tt
weight (suc zero) h = lit≤ tt
weight (suc (suc zero)) h = lit≤ tt
weight (suc (suc (suc zero))) h = lit≤ tt
weight (suc (suc (suc (suc k)))) h = absurd (omega arith)

-- where the reading of a number stands, after k groups
pub record Sofar (xs : List ℕ) (value scale k : ℕ) : Type 0 where
  pub read : number xs ≡ onto value scale k (numeral (4 - k) (drop k xs))
  pub weight : scale ≡ 128 ^ k
  pub small : value < scale
  pub few : k ≤ 4

pub sofar_none : (xs : List ℕ) → Sofar xs 0 1 0
sofar_none xs = record { read = onto_none _; weight = refl; small = omega arith; few = omega arith }

product : (b s : ℕ) (n : ℕ) → b ≤ n → b * s ≤ n * s
product b s n h = mul-le-mul_right s h

pub sofar_more : (xs : List ℕ) (value scale k : ℕ) → Sofar xs value scale k → k < 4 → k < length xs → 128 ≤ get_or xs k 0 → get_or xs k 0 < 256
    → Sofar xs (value + (get_or xs k 0 - 128) * scale) (scale * 128) (k + 1)
sofar_more xs value scale k s h l b f =
    let left : 4 - k ≡ suc (4 - (k + 1)) = omega arith in
    let g = get_or xs k 0 - 128 in
    let bits : get_or xs k 0 % 128 ≡ g = omega arith in
    record {
      read = s.read ∙ ap (λ n. onto value scale k (numeral n (drop k xs))) left
          ∙ ap (onto value scale k) (numeral_more (4 - (k + 1)) xs k l b ∙ ap (λ n. before n (numeral (4 - (k + 1)) (drop (k + 1) xs))) bits) ∙ onto_before value scale k g _;
      weight = ap (λ n. n * 128) s.weight ∙ sym (pow-suc 128 k) ∙ ap (λ n. 128 ^ n) (sym (add-one k));
      small = omega (arith, product g scale 127 (omega arith), s.small);
      few = omega arith;
    }

pub sofar_end : (xs : List ℕ) (value scale k : ℕ) → Sofar xs value scale k → length xs ≤ k → number xs ≡ ended
sofar_end xs value scale k s h = s.read ∙ ap (onto value scale k) (numeral_end (4 - k) xs k h)

one_group : (a s k b : ℕ) → onto a s k (got b 1) ≡ got (a + b * s) (k + 1)
one_group a s k b = ap (λ n. got (a + n) (k + 1)) (mul_comm s b)

-- the last byte of a number, which is at most 15 where it is the fifth
pub sofar_last : (xs : List ℕ) (value scale k : ℕ) → Sofar xs value scale k → k < length xs → get_or xs k 0 < 128 → (k ≡ 4 → get_or xs k 0 ≤ 15)
    → number xs ≡ got (value + get_or xs k 0 * scale) (k + 1)
sofar_last xs value scale k s l b f = go (cases_lt k 4)
  where
    go : (k < 4) ⊎ (4 ≤ k) → number xs ≡ got (value + get_or xs k 0 * scale) (k + 1)
    go (inl h) =
        let left : 4 - k ≡ suc (4 - (k + 1)) = omega arith in
        s.read ∙ ap (λ n. onto value scale k (numeral n (drop k xs))) left ∙ ap (onto value scale k) (numeral_last (4 - (k + 1)) xs k l b)
        ∙ one_group value scale k (get_or xs k 0)
    go (inr h) =
        let left : 4 - k ≡ 0 = omega arith in
        s.read ∙ ap (λ n. onto value scale k (numeral n (drop k xs))) left ∙ ap (onto value scale k) (fifth xs k l (f (omega (arith, s.few))))
        ∙ one_group value scale k (get_or xs k 0)

pub sofar_over : (xs : List ℕ) (value scale k : ℕ) → Sofar xs value scale k → k ≡ 4 → k < length xs → 15 < get_or xs k 0 → number xs ≡ overlong
sofar_over xs value scale k s h l b =
    let left : 4 - k ≡ 0 = omega arith in
    s.read ∙ ap (λ n. onto value scale k (numeral n (drop k xs))) left ∙ ap (onto value scale k) (fifth_over xs k l b)

-- a byte that says that another follows is none but the first four
pub not_fifth : (k b : ℕ) → (4 ≤ k → b ≤ 15) → 128 ≤ b → k < 4
not_fifth k b f h = go (cases_lt k 4)
  where
    go : (k < 4) ⊎ (4 ≤ k) → k < 4
    go (inl l) = l
    go (inr l) = let small = f l in absurd (omega arith)

-- nothing passes 32 bits
pub more_fits : (xs : List ℕ) (value scale k b : ℕ) → Sofar xs value scale k → k < 4 → b ≤ 127 → Fits w32 (b * scale) × Fits w32 (value + b * scale) × Fits w32 (scale * 128)
more_fits xs value scale k b s l h =
    let w : scale ≤ 2097152 = omega (arith, weight k l, s.weight) in
    let p = product b scale 127 h in
    (record { fits = omega (arith, p) }, record { fits = omega (arith, p, s.small) }, record { fits = omega arith })

pub last_fits : (xs : List ℕ) (value scale k b : ℕ) → Sofar xs value scale k → b < 128 → (k ≡ 4 → b ≤ 15) → Fits w32 (b * scale) × Fits w32 (value + b * scale)
last_fits xs value scale k b s h f = go (cases_lt k 4)
  where
    go : (k < 4) ⊎ (4 ≤ k) → Fits w32 (b * scale) × Fits w32 (value + b * scale)
    go (inl l) = let t = more_fits xs value scale k b s l (omega arith) in (t.0, t.1)
    go (inr l) =
        let four : k ≡ 4 = omega (arith, s.few) in
        let w : scale ≡ 268435456 = s.weight ∙ ap (λ n. 128 ^ n) four in
        let p = product b scale 15 (f four) in
        (record { fits = omega (arith, w, p) }, record { fits = omega (arith, w, p, s.small) })

-- what is answered, where what stands at the place is known
finds : (xs : List ℕ) (start : ℕ) (e : Numeral) → number (drop start xs) ≡ e → Finds xs start (found (begun e start))
unfolding number_at
finds xs start e n =
    record {
      answer = sym (ap (λ r. found (begun r start)) n);
      right = right 4 (drop start xs);
      forms = λ v used f. ap (λ r. found (begun r start)) (sym n ∙ form_read 4 (drop start xs) v used f);
    }

pub finds_none : (xs : List ℕ) (start : ℕ) → length xs ≤ start → Finds xs start (Err Ended)
finds_none xs start h = finds xs start ended (numeral_end 4 xs start h)

-- the same of what stands in the rest of the bytes, from the place on
pub finds_in : (xs : List ℕ) (start : ℕ) (rest : List ℕ) (e : Numeral) → rest ≡ slice_range xs start (length xs) → number rest ≡ e → Finds xs start (found (begun e start))
finds_in xs start rest e r n = finds xs start e (ap number (sym (take_rest xs start) ∙ sym r) ∙ n)

-- and where that is a number, of which the last byte stands before `end`
pub finds_number : (xs : List ℕ) (start : ℕ) (rest : List ℕ) (v used end : ℕ) → rest ≡ slice_range xs start (length xs) → number rest ≡ got v used → start + used ≡ end
    → Finds xs start (Ok (v, end))
finds_number xs start rest v used end r n e = subst (λ p. Finds xs start (Ok (v, p))) e (finds_in xs start rest (got v used) r n)

-- what stands in the rest of the bytes is bytes
pub rest_byte : (xs : List ℕ) (start : ℕ) (rest : List ℕ) (k : ℕ) → rest ≡ slice_range xs start (length xs) → ((i : ℕ) → Fits w8 (get_or xs i 0)) → get_or rest k 0 < 256
rest_byte xs start rest k r f =
    let e : get_or rest k 0 ≡ get_or xs (start + k) 0 = ap (λ l. get_or l k 0) (r ∙ take_rest xs start) ∙ get_or-drop start xs k 0 in
    omega (arith, e, f (start + k))
