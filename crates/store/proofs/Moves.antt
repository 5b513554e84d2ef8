-- Cells by counting, and: a value stays where its words and its cells stay.
use Rattle.std.proofs.Common.{◌≡◌, ℕ, ◌+◌, ◌<◌, ◌≤◌, Bool, true, false, eqb, List, [], ◌∷◌, ◌++◌, get_or, is_some, unwrap_or, sym, refl, ap, ◌∙◌, ap₂, arith, w32, to_z, eq-eqb}
use Rattle.lfpl.specs.Syntax.{Ty, width, first, second}
use Rattle.lfpl.specs.Values.{Val, num, dia, nil, cons, leaf, node, pair, left, right}
use Rattle.pool.specs.Pools.{Meaning, held, is_taken}
use Rattle.store.specs.Layout.{one, used, occ, words_of, Shows, footprint}

pub occ_append : (c : ℕ) (xs ys : List ℕ) → occ c (xs ++ ys) ≡ occ c xs + occ c ys
occ_append c [] ys = omega arith
occ_append c (x ∷ xs) ys = omega (arith, occ_append c xs ys)

pub occ_here : (x : ℕ) (xs : List ℕ) → 0 < occ x (x ∷ xs)
occ_here x xs = let e : eqb x x ≡ true = eq-eqb x x refl in rw e (omega arith)

one_le : (b : Bool) → one b ≤ 1
one_le true = omega arith
one_le false = omega arith

pub used_le : (m : Meaning) (c : ℕ) → used m c ≤ 1
used_le m c = one_le (is_taken m c)

-- n words of ws from o on are those of ws' from o' on
abbrev pub Window : List ℕ → ℕ → List ℕ → ℕ → ℕ → Type 0
Window ws o ws' o' n = (i j : ℕ) → o ≤ i → i < o + n → j + o ≡ i + o' → get_or ws' j 0 ≡ get_or ws i 0

pub same_window : (xs ys : List ℕ) (o n : ℕ) → ys ≡ xs → Window xs o ys o n
same_window xs ys o n e i j h k q = let p : j ≡ i = omega arith in rw (e, p) refl

words_same : (m m' : Meaning) (c c' : ℕ) → c' ≡ c → held m' c ≡ held m c → words_of m' c' ≡ words_of m c
words_same m m' c c' e h = ap (words_of m') e ∙ ap (λ x. unwrap_or x []) h

pub used_same : (m m' : Meaning) (c c' : ℕ) → c' ≡ c → held m' c ≡ held m c → used m' c' ≡ used m c
used_same m m' c c' e h = ap (used m') e ∙ ap (λ x. one (is_some x)) h

-- where the words are the same and the cells that it holds are too, the value is shown and holds the same cells
pub moved : (m m' : Meaning) (A : Ty) (v : Val) (ws ws' : List ℕ) (o o' : ℕ) → Shows m A v ws o → Window ws o ws' o' (width A)
    → ((c : ℕ) → 0 < occ c (footprint m A v ws o) → held m' c ≡ held m c)
    → Shows m' A v ws' o' × (footprint m' A v ws' o' ≡ footprint m A v ws o)
unfolding Shows footprint
moved m m' A (num z) ws ws' o o' s w h =
    let e = ap width s.0 in
    let x : get_or ws' o' 0 ≡ get_or ws o 0 = w o o' (omega arith) (omega arith) (omega arith) in
    ((s.0, s.1 ∙ ap (to_z w32) (sym x)), refl)
moved m m' A dia ws ws' o o' s w h =
    let e = ap width s.0 in
    let x : get_or ws' o' 0 ≡ get_or ws o 0 = w o o' (omega arith) (omega arith) (omega arith) in
    ((s.0, used_same m m' _ _ x (h _ (occ_here (get_or ws o 0) [])) ∙ s.1), ap (λ y. y ∷ []) x)
moved m m' A nil ws ws' o o' s w h =
    let e = ap width s.0 in
    let x : get_or ws' o' 0 ≡ get_or ws o 0 = w o o' (omega arith) (omega arith) (omega arith) in
    ((s.0, x ∙ s.1), refl)
moved m m' A (cons a b) ws ws' o o' s w h =
    let e = ap width s.0 in
    let x : get_or ws' o' 0 ≡ get_or ws o 0 = w o o' (omega arith) (omega arith) (omega arith) in
    let c = get_or ws o 0 in
    let fa = footprint m (first A) a (words_of m c) 0 in
    let fb = footprint m A b (words_of m c) (width (first A)) in
    let k : held m' c ≡ held m c = h c (occ_here c (fa ++ fb)) in
    let y : words_of m' (get_or ws' o' 0) ≡ words_of m c = words_same m m' _ _ x k in
    let ra = moved m m' (first A) a (words_of m c) (words_of m' (get_or ws' o' 0)) 0 0 s.2 (same_window _ _ 0 (width (first A)) y) (λ d p. h d (omega (arith, occ_append d fa fb))) in
    let rb = moved m m' A b (words_of m c) (words_of m' (get_or ws' o' 0)) (width (first A)) (width (first A)) s.3 (same_window _ _ (width (first A)) (width A) y) (λ d p. h d (omega (arith, occ_append d fa fb))) in
    ((s.0, used_same m m' _ _ x k ∙ s.1, ra.0, rb.0), ap₂ ◌∷◌ x (ap₂ ◌++◌ ra.1 rb.1))
moved m m' A (leaf a) ws ws' o o' s w h =
    let e = ap width s.0 in
    let x : get_or ws' o' 0 ≡ get_or ws o 0 = w o o' (omega arith) (omega arith) (omega arith) in
    let ra = moved m m' (first A) a ws ws' (o + 1) (o' + 1) s.2 (λ i j p q r. w i j (omega arith) (omega arith) (omega arith)) h in
    ((s.0, x ∙ s.1, ra.0), ra.1)
moved m m' A (node a l r) ws ws' o o' s w h =
    let e = ap width s.0 in
    let n = width (first A) in
    let x : get_or ws' o' 0 ≡ get_or ws o 0 = w o o' (omega arith) (omega arith) (omega arith) in
    let xl : get_or ws' (o' + 1 + n) 0 ≡ get_or ws (o + 1 + n) 0 = w (o + 1 + n) (o' + 1 + n) (omega arith) (omega arith) (omega arith) in
    let xr : get_or ws' (o' + 2 + n) 0 ≡ get_or ws (o + 2 + n) 0 = w (o + 2 + n) (o' + 2 + n) (omega arith) (omega arith) (omega arith) in
    let cl = get_or ws (o + 1 + n) 0 in
    let cr = get_or ws (o + 2 + n) 0 in
    let fa = footprint m (first A) a ws (o + 1) in
    let fl = footprint m A l (words_of m cl) 0 in
    let fr = footprint m A r (words_of m cr) 0 in
    let all : (d : ℕ) → occ d (fa ++ ((cl ∷ fl) ++ (cr ∷ fr))) ≡ occ d fa + (occ d (cl ∷ fl) + occ d (cr ∷ fr)) = λ d. omega (arith, occ_append d fa ((cl ∷ fl) ++ (cr ∷ fr)), occ_append d (cl ∷ fl) (cr ∷ fr)) in
    let kl : held m' cl ≡ held m cl = h cl (omega (arith, all cl, occ_here cl fl)) in
    let kr : held m' cr ≡ held m cr = h cr (omega (arith, all cr, occ_here cr fr)) in
    let yl : words_of m' (get_or ws' (o' + 1 + n) 0) ≡ words_of m cl = words_same m m' _ _ xl kl in
    let yr : words_of m' (get_or ws' (o' + 2 + n) 0) ≡ words_of m cr = words_same m m' _ _ xr kr in
    let ra = moved m m' (first A) a ws ws' (o + 1) (o' + 1) s.2 (λ i j p q r. w i j (omega arith) (omega arith) (omega arith)) (λ d p. h d (omega (arith, all d))) in
    let rl = moved m m' A l (words_of m cl) (words_of m' (get_or ws' (o' + 1 + n) 0)) 0 0 s.4 (same_window _ _ 0 (width A) yl) (λ d p. h d (omega (arith, all d))) in
    let rr = moved m m' A r (words_of m cr) (words_of m' (get_or ws' (o' + 2 + n) 0)) 0 0 s.6 (same_window _ _ 0 (width A) yr) (λ d p. h d (omega (arith, all d))) in (
      (s.0, x ∙ s.1, ra.0, used_same m m' _ _ xl kl ∙ s.3, rl.0, used_same m m' _ _ xr kr ∙ s.5, rr.0),
      ap₂ ◌++◌ ra.1 (ap₂ ◌++◌ (ap₂ ◌∷◌ xl rl.1) (ap₂ ◌∷◌ xr rr.1)),
    )
moved m m' A (pair a b) ws ws' o o' s w h =
    let e = ap width s.0 in
    let n = width (first A) in
    let fa = footprint m (first A) a ws o in
    let fb = footprint m (second A) b ws (o + n) in
    let ra = moved m m' (first A) a ws ws' o o' s.1 (λ i j p q r. w i j (omega arith) (omega arith) (omega arith)) (λ d p. h d (omega (arith, occ_append d fa fb))) in
    let rb = moved m m' (second A) b ws ws' (o + n) (o' + n) s.2 (λ i j p q r. w i j (omega arith) (omega arith) (omega arith)) (λ d p. h d (omega (arith, occ_append d fa fb))) in
    ((s.0, ra.0, rb.0), ap₂ ◌++◌ ra.1 rb.1)
moved m m' A (left a) ws ws' o o' s w h =
    let e = ap width s.0 in
    let x : get_or ws' o' 0 ≡ get_or ws o 0 = w o o' (omega arith) (omega arith) (omega arith) in
    let ra = moved m m' (first A) a ws ws' (o + 1) (o' + 1) s.2 (λ i j p q r. w i j (omega arith) (omega arith) (omega arith)) h in
    ((s.0, x ∙ s.1, ra.0), ra.1)
moved m m' A (right a) ws ws' o o' s w h =
    let e = ap width s.0 in
    let x : get_or ws' o' 0 ≡ get_or ws o 0 = w o o' (omega arith) (omega arith) (omega arith) in
    let ra = moved m m' (second A) a ws ws' (o + 1) (o' + 1) s.2 (λ i j p q r. w i j (omega arith) (omega arith) (omega arith)) h in
    ((s.0, x ∙ s.1, ra.0), ra.1)
