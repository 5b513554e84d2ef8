-- How cells are given back, one after another.
use Rattle.std.proofs.Common.{◌≡◌, ℕ, zero, suc, ◌+◌, ◌<◌, ◌≤◌, min, Bool, true, false, cond, eqb, ◌≢◌, List, [], ◌∷◌, ◌++◌, length, get_or, take, drop, is_some, None, sym, refl, ap, ◌∙◌, subst, ⊎_elim, zero-add, arith, length-append, eq-eqb}
use lib.Seq.{sets, sets-eq}
use Rattle.std.proofs.lemmas.List.{take_more, take_all, take_at}
use Rattle.std.proofs.lemmas.Bool.{cases_lt, eqb-true, eqb-false}
use Rattle.pool.specs.Pools.{Cell, Meaning, held, is_taken, Gives, after_give}
use Rattle.pool.proofs.Laws.{held_same, held_other, taken_low, taken_high}
use Rattle.store.specs.Layout.{one, used, occ}
use Rattle.store.specs.Releasing.{Released}
use Rattle.store.proofs.Moves.{occ_append, used_le, used_same}

released_none : (m : Meaning) → Released m [] m
released_none m = record { cells = λ c. omega arith; keeps = λ c p. refl; count = omega arith; bound = refl }

taken_of : (b : Bool) → one b ≡ 1 → b ≡ true
taken_of true e = refl
taken_of false e = absurd (omega (arith, e))

released_one : (m m' : Meaning) (c : ℕ) (r : Bool) → used m c ≡ 1 → Gives m c r m' → Released m (c ∷ []) m'
released_one m m' c r u v =
    let t : is_taken m c ≡ true = taken_of (is_taken m c) u in
    let a : m' ≡ after_give m c = v.after ∙ ap (λ b. cond b (after_give m c) m) (v.answer ∙ t) in
    let here : held m' c ≡ None = ap (λ x. held x c) a ∙ held_same m c (m.free + 1) None (taken_low m c t) (taken_high m c t) in
    let there : (k : ℕ) → k ≢ c → held m' k ≡ held m k = λ k n. ap (λ x. held x k) a ∙ held_other m c k (m.free + 1) None (taken_low m c t) n in
    record {
      cells = λ k. counts k here there (eqb c k) refl;
      keeps = λ k p. there k (λ e. omega (arith, p, ap (used m') e, ap (λ (x : Cell). one (is_some x)) here));
      count = ap (λ x. x.free) a ∙ refl;
      bound = v.bound;
    }
  where
    counts : (k : ℕ) → held m' c ≡ None → ((k : ℕ) → k ≢ c → held m' k ≡ held m k) → (b : Bool) → eqb c k ≡ b → used m' k + (one b + 0) ≡ used m k
    counts k here there true e =
        let q : c ≡ k = eqb-true c k e in
        omega (arith, ap (used m) q, ap (used m') q, u, ap (λ (x : Cell). one (is_some x)) here)
    counts k here there false e =
        let q : used m' k ≡ used m k = ap (λ (x : Cell). one (is_some x)) (there k (λ q. eqb-false c k e (sym q))) in
        omega (arith, q)

released_joins : (m m₁ m₂ : Meaning) (xs ys : List ℕ) → Released m xs m₁ → Released m₁ ys m₂ → Released m (xs ++ ys) m₂
released_joins m m₁ m₂ xs ys p q = record {
  cells = λ c. omega (arith, p.cells c, q.cells c, occ_append c xs ys);
  keeps = λ c u. q.keeps c u ∙ p.keeps c (omega (arith, used_same m₁ m₂ c c refl (q.keeps c u), u));
  count = omega (arith, p.count, q.count, length-append xs ys);
  bound = q.bound ∙ p.bound;
}

occ_take : (c : ℕ) (xs : List ℕ) (i n : ℕ) → i ≤ n → occ c (take i xs) ≤ occ c (take n xs)
occ_take c xs zero n h = omega arith
occ_take c [] (suc i) n h = omega arith
occ_take c (x ∷ xs) (suc i) zero h = absurd (omega arith)
occ_take c (x ∷ xs) (suc i) (suc n) h = omega (arith, occ_take c xs i n (omega arith))

-- so many of a list's cells, each taken and none twice, are given back so far
abbrev pub GivenBack : Meaning → List ℕ → ℕ → ℕ → Meaning → Type 0
GivenBack m xs count k m' = ((c : ℕ) → occ c (take count xs) ≤ used m c) → Released m (take k xs) m'

pub given_none : (m : Meaning) (xs : List ℕ) (count : ℕ) → GivenBack m xs count 0 m
given_none m xs count h = released_none m

pub given_more : (m m₁ m₂ : Meaning) (xs : List ℕ) (count k : ℕ) (r : Bool) → k < min count (length xs) → GivenBack m xs count k m₁ → Gives m₁ (get_or xs k 0) r m₂
    → GivenBack m xs count (k + 1) m₂
given_more m m₁ m₂ xs count k r l p v h =
    let c = get_or xs k 0 in
    let e : take (k + 1) xs ≡ take k xs ++ (c ∷ []) = take_more xs k 0 (omega arith) in
    let q = p h in
    let here : eqb c c ≡ true = eq-eqb c c refl in
    let i : one (eqb c c) ≡ 1 = ap one here in
    let u : used m₁ c ≡ 1 = omega (arith, q.cells c, h c, occ_take c xs (k + 1) count (omega arith), ap (occ c) e, occ_append c (take k xs) (c ∷ []), i, used_le m₁ c) in
    subst (λ z. Released m z m₂) (sym e) (released_joins m m₁ m₂ (take k xs) (c ∷ []) q (released_one m₁ m₂ c r u v))

take_min : (n k : ℕ) (xs : List ℕ) → k ≡ min n (length xs) → take k xs ≡ take n xs
take_min n k xs e = ⊎_elim
    (λ l. let z : k ≡ n = omega arith in ap (λ i. take i xs) z)
    (λ l. take_all k xs (omega arith) ∙ sym (take_all n xs l))
    (cases_lt n (length xs))

pub given_all : (m m' : Meaning) (xs : List ℕ) (count k : ℕ) → k ≡ min count (length xs) → GivenBack m xs count k m'
    → ((c : ℕ) → occ c (take count xs) ≤ used m c) → Released m (take count xs) m'
given_all m m' xs count k e p h = subst (λ z. Released m z m') (take_min count k xs e) (p h)

pub sets_first : (xs out : List ℕ) → length xs ≤ length out → sets out 0 xs ≡ xs ++ drop (length xs) out
sets_first xs out h = sets-eq xs out 0 (omega arith) ∙ ap (λ n. xs ++ drop n out) (zero-add (length xs))

-- what was placed first in a list is what its front has
pub placed_first : (xs out out' : List ℕ) (n : ℕ) → length xs ≤ length out → out' ≡ sets out 0 xs → n ≡ 0 + length xs → take n out' ≡ xs
placed_first xs out out' n l e k =
    let z : n ≡ length xs = omega arith in
    ap (λ i. take i out') z ∙ ap (take (length xs)) (e ∙ sets_first xs out l) ∙ take_at xs (drop (length xs) out) (length xs) refl
