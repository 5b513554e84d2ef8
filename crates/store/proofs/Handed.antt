-- What each form of type's branch hands to a sink.
use Rattle.std.proofs.Common.{◌≡◌, ℕ, ◌+◌, ◌-◌, ◌<◌, cond, eqb, List, [], ◌∷◌, ◌++◌, get_or, sym, refl, ap, ◌∙◌, subst, inl, inr, arith, w32, to_z}
use Rattle.codec.specs.Integer.{zigzag}
use Rattle.codec.specs.Number.{spelling, written}
use Rattle.lfpl.specs.Syntax.{Ty, int, diamond, list_of, tree_of, pair_of, sum_of, width}
use Rattle.lfpl.specs.Values.{Val, dia, nil, cons, leaf, node, pair, left, right, charge, write}
use Rattle.pool.specs.Pools.{Meaning}
use Rattle.store.specs.Layout.{used, words_of, Shows, footprint}
use Rattle.store.specs.Walking.{Walks, WalksCell}
use Rattle.store.proofs.Shown.{zero_free, shown_int, shown_dia, shown_list, shown_tree, shown_pair, shown_sum}

zero_written : written 0 ≡ 0 ∷ []
unfolding spelling
zero_written = refl

one_written : written 1 ≡ 1 ∷ []
unfolding spelling
one_written = refl

module _ (S : Type 0) (R : S → List ℕ → List ℕ → S → Type 0) (none : (s : S) → R s [] [] s)
    (joins : (a b c : S) (xs ys cs ds : List ℕ) → R a xs cs b → R b ys ds c → R a (xs ++ ys) (cs ++ ds) c) where
  -- a mark before other bytes
  zero_then : (a b c : S) (n : ℕ) (ys ds : List ℕ) → n ≡ 0 → R a (written n) [] b → R b ys ds c → R a (0 ∷ ys) ds c
  zero_then a b c n ys ds e p q = joins a b c (0 ∷ []) ys [] ds (subst (λ x. R a x [] b) (ap written e ∙ zero_written) p) q

  one_then : (a b c : S) (n : ℕ) (ys ds : List ℕ) → n ≡ 1 → R a (written n) [] b → R b ys ds c → R a (1 ∷ ys) ds c
  one_then a b c n ys ds e p q = joins a b c (1 ∷ []) ys [] ds (subst (λ x. R a x [] b) (ap written e ∙ one_written) p) q

  module _ (m : Meaning) where
    pub hand_pair : (B C : Ty) (ws : List ℕ) (o cells n : ℕ) (s s₁ s₂ : S) → n ≡ o + width B
        → Walks m B ws o cells (λ xs cs. R s xs cs s₁) → Walks m C ws n cells (λ xs cs. R s₁ xs cs s₂) → Walks m (pair_of B C) ws o cells (λ xs cs. R s xs cs s₂)
    unfolding footprint
    hand_pair B C ws o cells n s s₁ s₂ w p q v h k =
        let x = shown_pair m ws o B C v h in
        let kv = ap charge x.2 in
        let ha = p x.0 x.3 (omega (arith, kv)) in
        let hb = subst (λ n. Walks m C ws n cells (λ xs cs. R s₁ xs cs s₂)) w q x.1 x.4 (omega (arith, kv)) in
        subst (λ v. R s (write v) (footprint m (pair_of B C) v ws o) s₂) (sym x.2) (joins s s₁ s₂ _ _ _ _ ha hb)

    pub hand_cell : (A : Ty) (c cells : ℕ) (ws : List ℕ) (s s₁ s₂ : S) → R s [] (c ∷ []) s₁ → (used m c ≡ 1 → ws ≡ words_of m c)
        → Walks m A ws 0 (cells - 1) (λ xs cs. R s₁ xs cs s₂) → WalksCell m A c cells (λ xs cs. R s xs cs s₂)
    hand_cell A c cells ws s s₁ s₂ p ld q v u h k =
        joins s s₁ s₂ [] (write v) (c ∷ []) (footprint m A v (words_of m c) 0) p (subst (λ y. Walks m A y 0 (cells - 1) (λ xs cs. R s₁ xs cs s₂)) (ld u) q v h (omega arith))

    module _ (A : Ty) (ws : List ℕ) (o cells : ℕ) where
      say : (B : Ty) (s t : S) → A ≡ B → Walks m B ws o cells (λ xs cs. R s xs cs t) → Walks m A ws o cells (λ xs cs. R s xs cs t)
      say B s t e p = subst (λ X. Walks m X ws o cells (λ xs cs. R s xs cs t)) (sym e) p

      -- what is shown is v, so what is to be said of it is said of v
      of : (B : Ty) (s t : S) (w v : Val) → w ≡ v → R s (write v) (footprint m B v ws o) t → R s (write w) (footprint m B w ws o) t
      of B s t w v e p = subst (λ v. R s (write v) (footprint m B v ws o) t) (sym e) p

      pub hand_num : (s t : S) (n : ℕ) → A ≡ int → n ≡ zigzag (to_z w32 (get_or ws o 0)) → R s (written n) [] t → Walks m A ws o cells (λ xs cs. R s xs cs t)
      unfolding footprint
      hand_num s t n e q p = say int s t e (λ v h k. of int s t v _ (shown_int m ws o v h) (subst (λ x. R s (written x) [] t) q p))

      pub hand_dia : (s t : S) → A ≡ diamond → R s [] (get_or ws o 0 ∷ []) t → Walks m A ws o cells (λ xs cs. R s xs cs t)
      unfolding footprint
      hand_dia s t e p = say diamond s t e (λ v h k. of diamond s t v dia (shown_dia m ws o v h).0 p)

      pub hand_nil : (B : Ty) (s t : S) → A ≡ list_of B → get_or ws o 0 ≡ 0 → R s (written 0) [] t → Walks m A ws o cells (λ xs cs. R s xs cs t)
      unfolding footprint
      hand_nil B s t e z p = say (list_of B) s t e (λ v h k. elim (shown_list m ws o B v h) [
        | inl x ↦ of (list_of B) s t v nil x.1 (subst (λ y. R s y [] t) zero_written p)
        | inr x ↦ absurd (zero_free m (get_or ws o 0) z x.3)
      ])

      pub hand_none : (B : Ty) (s t : S) → A ≡ list_of B → 0 < get_or ws o 0 → cells ≡ 0 → Walks m A ws o cells (λ xs cs. R s xs cs t)
      hand_none B s t e z q = say (list_of B) s t e (λ v h k. elim (shown_list m ws o B v h) [
        | inl x ↦ absurd (omega (arith, x.0, z))
        | inr x ↦ absurd (omega (arith, ap charge x.2, k))
      ])

      pub hand_cons : (B : Ty) (cell : List ℕ) (s s₁ s₂ s₃ : S) → A ≡ list_of B → 0 < get_or ws o 0 → R s (written 1) [] s₁ → R s₁ [] (get_or ws o 0 ∷ []) s₂
          → (used m (get_or ws o 0) ≡ 1 → cell ≡ words_of m (get_or ws o 0)) → Walks m (pair_of B A) cell 0 (cells - 1) (λ xs cs. R s₂ xs cs s₃)
          → Walks m A ws o cells (λ xs cs. R s xs cs s₃)
      unfolding Shows footprint
      hand_cons B cell s s₁ s₂ s₃ e z p q ld r = say (list_of B) s s₃ e (λ v h k. elim (shown_list m ws o B v h) [
        | inl x ↦ absurd (omega (arith, x.0, z))
        | inr x ↦
            let c = get_or ws o 0 in
            let n : 0 + width B ≡ width B = omega arith in
            let r₁ = subst (λ X. Walks m (pair_of B X) cell 0 (cells - 1) (λ xs cs. R s₂ xs cs s₃)) e r in
            let r₂ = subst (λ y. Walks m (pair_of B (list_of B)) y 0 (cells - 1) (λ xs cs. R s₂ xs cs s₃)) (ld x.3) r₁ in
            let sb = subst (λ i. Shows m (list_of B) x.1 (words_of m c) i) (sym n) x.5 in
            let y = r₂ (pair x.0 x.1) (refl, x.4, sb) (omega (arith, ap charge x.2, k)) in
            let fa = footprint m B x.0 (words_of m c) 0 in
            let y₁ = subst (λ i. R s₂ (write x.0 ++ write x.1) (fa ++ footprint m (list_of B) x.1 (words_of m c) i) s₃) n y in
            of (list_of B) s s₃ v (cons x.0 x.1) x.2 (one_then s s₁ s₃ 1 _ _ refl p (joins s₁ s₂ s₃ [] _ (c ∷ []) _ q y₁))
      ])

      pub hand_leaf : (B : Ty) (s s₁ s₂ : S) → A ≡ tree_of B → get_or ws o 0 ≡ 0 → R s (written (get_or ws o 0)) [] s₁
          → Walks m B ws (o + 1) cells (λ xs cs. R s₁ xs cs s₂) → Walks m A ws o cells (λ xs cs. R s xs cs s₂)
      unfolding footprint
      hand_leaf B s s₁ s₂ e z p q = say (tree_of B) s s₂ e (λ v h k. elim (shown_tree m ws o B v h) [
        | inl x ↦ of (tree_of B) s s₂ v (leaf x.1.0) x.1.1 (zero_then s s₁ s₂ _ _ _ z p (q x.1.0 x.1.2 (omega (arith, ap charge x.1.1, k))))
        | inr x ↦ absurd (omega (arith, x.0, z))
      ])

      pub hand_node : (B : Ty) (n₁ n₂ : ℕ) (s s₁ s₂ s₃ s₄ : S) → A ≡ tree_of B → 0 < get_or ws o 0 → n₁ ≡ o + 1 + width B → n₂ ≡ o + 2 + width B
          → R s (written (get_or ws o 0)) [] s₁ → Walks m B ws (o + 1) cells (λ xs cs. R s₁ xs cs s₂)
          → WalksCell m A (get_or ws n₁ 0) cells (λ xs cs. R s₂ xs cs s₃) → WalksCell m A (get_or ws n₂ 0) cells (λ xs cs. R s₃ xs cs s₄)
          → Walks m A ws o cells (λ xs cs. R s xs cs s₄)
      unfolding footprint
      hand_node B n₁ n₂ s s₁ s₂ s₃ s₄ e z w₁ w₂ p q f g = say (tree_of B) s s₄ e (λ v h k. elim (shown_tree m ws o B v h) [
        | inl x ↦ absurd (omega (arith, x.0, z))
        | inr y ↦
            let x = y.1 in
            let kv = ap charge x.3 in
            let f₁ = subst (λ i. WalksCell m (tree_of B) (get_or ws i 0) cells (λ xs cs. R s₂ xs cs s₃)) w₁ (subst (λ X. WalksCell m X (get_or ws n₁ 0) cells (λ xs cs. R s₂ xs cs s₃)) e f) in
            let g₁ = subst (λ i. WalksCell m (tree_of B) (get_or ws i 0) cells (λ xs cs. R s₃ xs cs s₄)) w₂ (subst (λ X. WalksCell m X (get_or ws n₂ 0) cells (λ xs cs. R s₃ xs cs s₄)) e g) in
            let ha = q x.0 x.4 (omega (arith, kv, k)) in
            let hl = f₁ x.1 x.5 x.6 (omega (arith, kv, k)) in
            let hr = g₁ x.2 x.7 x.8 (omega (arith, kv, k)) in
            of (tree_of B) s s₄ v (node x.0 x.1 x.2) x.3 (one_then s s₁ s₄ _ _ _ y.0 p (joins s₁ s₂ s₄ _ _ _ _ ha (joins s₂ s₃ s₄ _ _ _ _ hl hr)))
      ])

      pub hand_sum : (B C D : Ty) (s s₁ s₂ : S) → A ≡ sum_of B C → D ≡ cond (eqb (get_or ws o 0) 0) B C → R s (written (get_or ws o 0)) [] s₁
          → Walks m D ws (o + 1) cells (λ xs cs. R s₁ xs cs s₂) → Walks m A ws o cells (λ xs cs. R s xs cs s₂)
      unfolding footprint
      hand_sum B C D s s₁ s₂ e d p q = say (sum_of B C) s s₂ e (λ v h k. elim (shown_sum m ws o B C v h) [
        | inl y ↦
            let x = y.1 in
            let q₁ = subst (λ X. Walks m X ws (o + 1) cells (λ xs cs. R s₁ xs cs s₂)) (d ∙ ap (λ i. cond (eqb i 0) B C) y.0) q in
            of (sum_of B C) s s₂ v (left x.0) x.1 (zero_then s s₁ s₂ _ _ _ y.0 p (q₁ x.0 x.2 (omega (arith, ap charge x.1, k))))
        | inr y ↦
            let x = y.1 in
            let q₁ = subst (λ X. Walks m X ws (o + 1) cells (λ xs cs. R s₁ xs cs s₂)) (d ∙ ap (λ i. cond (eqb i 0) B C) y.0) q in
            of (sum_of B C) s s₂ v (right x.0) x.1 (one_then s s₁ s₂ _ _ _ y.0 p (q₁ x.0 x.2 (omega (arith, ap charge x.1, k))))
      ])
