-- Words show one value at most; it holds as many cells as it is charged for, and each of them is taken.
use Rattle.std.proofs.Common.{◌≡◌, ℕ, ◌+◌, ◌≤◌, min, Bool, true, false, eqb, List, ◌∷◌, ◌++◌, length, get_or, sym, refl, ap, ◌∙◌, subst, ap₂, inl, inr, arith, length-append}
use Rattle.std.proofs.lemmas.Bool.{eqb-true}
use Rattle.lfpl.specs.Syntax.{Ty, width, first, second}
use Rattle.lfpl.specs.Values.{Val, num, dia, nil, cons, leaf, node, pair, left, right, charge}
use Rattle.pool.specs.Pools.{Meaning}
use Rattle.store.specs.Layout.{one, used, occ, words_of, Shows, footprint}
use Rattle.store.proofs.Moves.{occ_append}
use Rattle.store.proofs.Shown.{zero_free, shown_int, shown_dia, shown_list, shown_tree, shown_pair, shown_sum}

pub holds_charge : (m : Meaning) (A : Ty) (v : Val) (ws : List ℕ) (o : ℕ) → length (footprint m A v ws o) ≡ charge v
unfolding footprint
holds_charge m A (num z) ws o = refl
holds_charge m A dia ws o = refl
holds_charge m A nil ws o = refl
holds_charge m A (cons a b) ws o =
    let ws₁ = words_of m (get_or ws o 0) in
    let n = width (first A) in
    omega (arith, length-append (footprint m (first A) a ws₁ 0) (footprint m A b ws₁ n), holds_charge m (first A) a ws₁ 0, holds_charge m A b ws₁ n)
holds_charge m A (leaf a) ws o = holds_charge m (first A) a ws (o + 1)
holds_charge m A (node a l r) ws o =
    let cl = get_or ws (o + 1 + width (first A)) 0 in
    let cr = get_or ws (o + 2 + width (first A)) 0 in
    let fa = footprint m (first A) a ws (o + 1) in
    let fl = footprint m A l (words_of m cl) 0 in
    let fr = footprint m A r (words_of m cr) 0 in
    omega (arith, length-append fa ((cl ∷ fl) ++ (cr ∷ fr)), length-append (cl ∷ fl) (cr ∷ fr), holds_charge m (first A) a ws (o + 1), holds_charge m A l (words_of m cl) 0, holds_charge m A r (words_of m cr) 0)
holds_charge m A (pair a b) ws o =
    let n = o + width (first A) in
    omega (arith, length-append (footprint m (first A) a ws o) (footprint m (second A) b ws n), holds_charge m (first A) a ws o, holds_charge m (second A) b ws n)
holds_charge m A (left a) ws o = holds_charge m (first A) a ws (o + 1)
holds_charge m A (right a) ws o = holds_charge m (second A) a ws (o + 1)

-- by the first value: the second is read by the same type and from the same words
pub one_value : (m : Meaning) (A : Ty) (v w : Val) (ws : List ℕ) (o : ℕ) → Shows m A v ws o → Shows m A w ws o → v ≡ w
unfolding Shows
one_value m A (num z) w ws o s t = ap num s.1 ∙ sym (shown_int m ws o w (subst (λ X. Shows m X w ws o) s.0 t))
one_value m A dia w ws o s t = sym (shown_dia m ws o w (subst (λ X. Shows m X w ws o) s.0 t)).0
one_value m A nil w ws o s t = elim (shown_list m ws o (first A) w (subst (λ X. Shows m X w ws o) s.0 t)) [
  | inl h ↦ sym h.1
  | inr h ↦ absurd (zero_free m (get_or ws o 0) s.1 h.3)
]
one_value m A (cons a b) w ws o s t =
    let ws₁ = words_of m (get_or ws o 0) in
    let n = width (first A) in
    elim (shown_list m ws o (first A) w (subst (λ X. Shows m X w ws o) s.0 t)) [
      | inl h ↦ absurd (zero_free m (get_or ws o 0) h.0 s.1)
      | inr h ↦ ap₂ cons (one_value m (first A) a h.0 ws₁ 0 s.2 h.4) (one_value m A b h.1 ws₁ n s.3 (subst (λ X. Shows m X h.1 ws₁ n) (sym s.0) h.5)) ∙ sym h.2
    ]
one_value m A (leaf a) w ws o s t = elim (shown_tree m ws o (first A) w (subst (λ X. Shows m X w ws o) s.0 t)) [
  | inl h ↦ ap leaf (one_value m (first A) a h.1.0 ws (o + 1) s.2 h.1.2) ∙ sym h.1.1
  | inr h ↦ absurd (omega (arith, s.1, h.0))
]
one_value m A (node a l r) w ws o s t =
    let wl = words_of m (get_or ws (o + 1 + width (first A)) 0) in
    let wr = words_of m (get_or ws (o + 2 + width (first A)) 0) in
    elim (shown_tree m ws o (first A) w (subst (λ X. Shows m X w ws o) s.0 t)) [
      | inl h ↦ absurd (omega (arith, s.1, h.0))
      | inr h ↦
          let x = h.1 in
          let el = one_value m A l x.1 wl 0 s.4 (subst (λ X. Shows m X x.1 wl 0) (sym s.0) x.6) in
          let er = one_value m A r x.2 wr 0 s.6 (subst (λ X. Shows m X x.2 wr 0) (sym s.0) x.8) in
          ap (λ i. node i l r) (one_value m (first A) a x.0 ws (o + 1) s.2 x.4) ∙ ap₂ (node x.0) el er ∙ sym x.3
    ]
one_value m A (pair a b) w ws o s t =
    let x = shown_pair m ws o (first A) (second A) w (subst (λ X. Shows m X w ws o) s.0 t) in
    ap₂ pair (one_value m (first A) a x.0 ws o s.1 x.3) (one_value m (second A) b x.1 ws (o + width (first A)) s.2 x.4) ∙ sym x.2
one_value m A (left a) w ws o s t = elim (shown_sum m ws o (first A) (second A) w (subst (λ X. Shows m X w ws o) s.0 t)) [
  | inl h ↦ ap left (one_value m (first A) a h.1.0 ws (o + 1) s.2 h.1.2) ∙ sym h.1.1
  | inr h ↦ absurd (omega (arith, s.1, h.0))
]
one_value m A (right a) w ws o s t = elim (shown_sum m ws o (first A) (second A) w (subst (λ X. Shows m X w ws o) s.0 t)) [
  | inl h ↦ absurd (omega (arith, s.1, h.0))
  | inr h ↦ ap right (one_value m (second A) a h.1.0 ws (o + 1) s.2 h.1.2) ∙ sym h.1.1
]

head_used : (m : Meaning) (x c : ℕ) → used m x ≡ 1 → one (eqb x c) ≤ used m c
head_used m x c u = go (eqb x c) refl
  where
    go : (b : Bool) → eqb x c ≡ b → one b ≤ used m c
    go true e = omega (arith, ap (used m) (eqb-true x c e), u)
    go false e = omega arith

-- the cells that a value holds are taken
pub shown_used : (m : Meaning) (A : Ty) (v : Val) (ws : List ℕ) (o : ℕ) → Shows m A v ws o → (c : ℕ) → min 1 (occ c (footprint m A v ws o)) ≤ used m c
unfolding Shows footprint
shown_used m A (num z) ws o s c = omega arith
shown_used m A dia ws o s c = omega (arith, head_used m (get_or ws o 0) c s.1)
shown_used m A nil ws o s c = omega arith
shown_used m A (cons a b) ws o s c =
    let x = get_or ws o 0 in
    let fa = footprint m (first A) a (words_of m x) 0 in
    let fb = footprint m A b (words_of m x) (width (first A)) in
    omega (arith, head_used m x c s.1, occ_append c fa fb, shown_used m (first A) a (words_of m x) 0 s.2 c, shown_used m A b (words_of m x) (width (first A)) s.3 c)
shown_used m A (leaf a) ws o s c = shown_used m (first A) a ws (o + 1) s.2 c
shown_used m A (node a l r) ws o s c =
    let cl = get_or ws (o + 1 + width (first A)) 0 in
    let cr = get_or ws (o + 2 + width (first A)) 0 in
    let fa = footprint m (first A) a ws (o + 1) in
    let fl = footprint m A l (words_of m cl) 0 in
    let fr = footprint m A r (words_of m cr) 0 in
    omega (
      arith,
      occ_append c fa ((cl ∷ fl) ++ (cr ∷ fr)),
      occ_append c (cl ∷ fl) (cr ∷ fr),
      head_used m cl c s.3,
      head_used m cr c s.5,
      shown_used m (first A) a ws (o + 1) s.2 c,
      shown_used m A l (words_of m cl) 0 s.4 c,
      shown_used m A r (words_of m cr) 0 s.6 c,
    )
shown_used m A (pair a b) ws o s c =
    let n = o + width (first A) in
    omega (arith, occ_append c (footprint m (first A) a ws o) (footprint m (second A) b ws n), shown_used m (first A) a ws o s.1 c, shown_used m (second A) b ws n s.2 c)
shown_used m A (left a) ws o s c = shown_used m (first A) a ws (o + 1) s.2 c
shown_used m A (right a) ws o s c = shown_used m (second A) a ws (o + 1) s.2 c
