-- An expression shares nothing exactly if each variable that is not heap-free is used at most once, where the uses of a variable are the parts that name it, all
-- arms together being one part.
use Rattle.std.proofs.Common.{◌≡◌, ℕ, zero, suc, ◌+◌, ◌<◌, ◌≤◌, Bool, true, false, not, ◌&&◌, ◌||◌, leb, List, [], ◌∷◌, length, refl, subst, inl, inr, not-suc-le-zero, arith}
use mathlib.Core.Bool.{false≢true}
use Rattle.std.proofs.lemmas.Bool.{or_cases, or_parts, or_from, or_left, or_right, lt-leb, leb-false}
use Rattle.lfpl.specs.Syntax.{Ty, is_heap_free, Head, is_var, Exprs, expr, end, ◌then◌, names, names_any}
use Rattle.lfpl.specs.Typing.{type_at}
use Rattle.lfpl.specs.Judge.{count, parts_naming, shares}

abbrev pub uses : ℕ → Exprs → Exprs → ℕ
uses v ps qs = parts_naming v ps + count (names_any v qs)

abbrev pub Once : List Ty → Exprs → Exprs → Type 0
Once Γ ps qs = (v : ℕ) → v < length Γ → is_heap_free (type_at Γ v) ≡ false → uses v ps qs ≤ 1

pub count_positive : (b : Bool) → 0 < count b → b ≡ true
count_positive true h = refl
count_positive false h = absurd (not-suc-le-zero h)

pub positive_count : (b : Bool) → b ≡ true → 0 < count b
positive_count true h = omega arith
positive_count false h = absurd (false≢true h)

pub count_small : (b : Bool) → count b ≤ 1
count_small true = omega arith
count_small false = omega arith

parts_named : (v : ℕ) (ps : Exprs) → 0 < parts_naming v ps → names_any v ps ≡ true
parts_named v end h = absurd (not-suc-le-zero h)
parts_named v (e then es) h = go (names v e) (names_any v es) h (parts_named v es)
  where
    go : (a b : Bool) → 0 < count a + parts_naming v es → (0 < parts_naming v es → b ≡ true) → (a || b) ≡ true
    go true b k f = refl
    go false b k f = f (omega arith)

named_parts : (v : ℕ) (ps : Exprs) → names_any v ps ≡ true → 0 < parts_naming v ps
named_parts v end h = absurd (false≢true h)
named_parts v (e then es) h = elim (or_cases (names v e) (names_any v es) h) [
  | inl p ↦ let k = positive_count (names v e) p in omega arith
  | inr p ↦ let k = named_parts v es p in omega arith
]

-- what is used is named
pub names_used : (h : Head) (ps qs : Exprs) (v : ℕ) → 0 < uses v ps qs → names v (expr h ps qs) ≡ true
names_used h ps qs v u = or_right (is_var v h) _ (go (names_any v qs) refl)
  where
    go : (b : Bool) → names_any v qs ≡ b → (names_any v ps || names_any v qs) ≡ true
    go true p = or_right (names_any v ps) _ p
    go false p = or_left _ _ (parts_named v ps (let u' : 0 < parts_naming v ps + count false = subst (λ (b : Bool). 0 < parts_naming v ps + count b) p u in omega arith))

pub uses_named : (h : Head) (ps qs : Exprs) (v : ℕ) → is_var v h ≡ false → names v (expr h ps qs) ≡ true → 0 < uses v ps qs
uses_named h ps qs v i n = elim (or_cases (is_var v h) _ n) [
  | inl p ↦ absurd (false≢true (subst (λ (b : Bool). b ≡ true) i p))
  | inr p ↦ elim (or_cases (names_any v ps) (names_any v qs) p) [
    | inl q ↦ let k = named_parts v ps q in omega arith
    | inr q ↦ let k = positive_count (names_any v qs) q in omega arith
  ]
]

shares_none : (Γ : List Ty) (i : ℕ) (ps qs : Exprs) → ((v : ℕ) → v < length Γ → is_heap_free (type_at Γ v) ≡ false → uses (i + v) ps qs ≤ 1) → shares i Γ ps qs ≡ false
shares_none [] i ps qs f = refl
shares_none (A ∷ Γ) i ps qs f =
    or_from _ _ (go (is_heap_free A) refl) (shares_none Γ (suc i) ps qs (λ v l p. subst (λ (w : ℕ). uses w ps qs ≤ 1) (omega arith) (f (suc v) (omega arith) p)))
  where
    go : (b : Bool) → is_heap_free A ≡ b → (not b && leb 2 (uses i ps qs)) ≡ false
    go true p = refl
    go false p = lt-leb 2 (uses i ps qs) (let k = subst (λ (w : ℕ). uses w ps qs ≤ 1) (let z : i + 0 ≡ i = omega arith in z) (f 0 (omega arith) p) in omega arith)

none_shares : (Γ : List Ty) (i : ℕ) (ps qs : Exprs) → shares i Γ ps qs ≡ false → (v : ℕ) → v < length Γ → is_heap_free (type_at Γ v) ≡ false → uses (i + v) ps qs ≤ 1
none_shares [] i ps qs s v l p = absurd (not-suc-le-zero l)
none_shares (A ∷ Γ) i ps qs s zero l p =
    let q = or_parts (not (is_heap_free A) && leb 2 (uses i ps qs)) (shares (suc i) Γ ps qs) s in
    let k = leb-false 2 (uses i ps qs) (subst (λ (b : Bool). (not b && leb 2 (uses i ps qs)) ≡ false) p q.0) in
    subst (λ (w : ℕ). uses w ps qs ≤ 1) (let z : i ≡ i + 0 = omega arith in z) (omega arith)
none_shares (A ∷ Γ) i ps qs s (suc v) l p =
    let q = or_parts (not (is_heap_free A) && leb 2 (uses i ps qs)) (shares (suc i) Γ ps qs) s in
    subst (λ (w : ℕ). uses w ps qs ≤ 1) (let z : suc i + v ≡ i + suc v = omega arith in z) (none_shares Γ (suc i) ps qs q.1 v (omega arith) p)

pub once_unshared : (Γ : List Ty) (ps qs : Exprs) → Once Γ ps qs → shares 0 Γ ps qs ≡ false
once_unshared Γ ps qs f = shares_none Γ 0 ps qs (λ v l p. subst (λ (w : ℕ). uses w ps qs ≤ 1) (let z : v ≡ 0 + v = omega arith in z) (f v l p))

pub unshared_once : (Γ : List Ty) (ps qs : Exprs) → shares 0 Γ ps qs ≡ false → Once Γ ps qs
unshared_once Γ ps qs s v l p = subst (λ (w : ℕ). uses w ps qs ≤ 1) (let z : 0 + v ≡ v = omega arith in z) (none_shares Γ 0 ps qs s v l p)
