-- What words that show a value say of it, by its type.
use Rattle.std.proofs.Common.{◌≡◌, ℕ, ◌+◌, ◌⊎◌, List, get_or, ap, ◌∙◌, subst, inl, inr, arith, w32, to_z}
use Rattle.lfpl.specs.Syntax.{Ty, int, diamond, list_of, tree_of, pair_of, sum_of, width}
use Rattle.lfpl.specs.Values.{Val, num, dia, nil, cons, leaf, node, pair, left, right}
use Rattle.pool.specs.Pools.{Meaning}
use Rattle.store.specs.Layout.{used, words_of, Shows}
use Rattle.store.proofs.Tops.{Top, top_int, top_dia, top_list, top_tree, top_pair, top_sum}

-- no cell has the number 0
pub zero_free : (m : Meaning) (x : ℕ) → x ≡ 0 → used m x ≡ 1 → ⊥
zero_free m x e t = let z : used m x ≡ 0 = ap (used m) e in omega (arith, z, t)

module _ (m : Meaning) (ws : List ℕ) (o : ℕ) where
  shows_top : (A : Ty) (v : Val) → Shows m A v ws o → Top A v
  unfolding Shows
  shows_top A (num z) s = s.0
  shows_top A dia s = s.0
  shows_top A nil s = s.0
  shows_top A (cons a b) s = s.0
  shows_top A (leaf a) s = s.0
  shows_top A (node a l r) s = s.0
  shows_top A (pair a b) s = s.0
  shows_top A (left a) s = s.0
  shows_top A (right a) s = s.0

  pub shown_int : (v : Val) → Shows m int v ws o → v ≡ num (to_z w32 (get_or ws o 0))
  unfolding Shows
  shown_int v s =
      let t = top_int v (shows_top int v s) in
      let h = subst (λ v. Shows m int v ws o) t.1 s in
      t.1 ∙ ap num h.1

  pub shown_dia : (v : Val) → Shows m diamond v ws o → (v ≡ dia) × (used m (get_or ws o 0) ≡ 1)
  unfolding Shows
  shown_dia v s = let t = top_dia v (shows_top diamond v s) in (t, (subst (λ v. Shows m diamond v ws o) t s).1)

  abbrev pub ListCases : Ty → Val → Type 0
  ListCases A v =
      ((get_or ws o 0 ≡ 0) × (v ≡ nil))
      ⊎ ((a : Val) × (b : Val) × (v ≡ cons a b) × (used m (get_or ws o 0) ≡ 1) × Shows m A a (words_of m (get_or ws o 0)) 0 × Shows m (list_of A) b (words_of m (get_or ws o 0)) (width A))

  pub shown_list : (A : Ty) (v : Val) → Shows m (list_of A) v ws o → ListCases A v
  unfolding Shows
  shown_list A v s = go (top_list A v (shows_top (list_of A) v s))
    where
      go : (v ≡ nil) ⊎ ((a : Val) × (b : Val) × (v ≡ cons a b)) → ListCases A v
      go (inl e) = inl ((subst (λ v. Shows m (list_of A) v ws o) e s).1, e)
      go (inr (a, b, e)) = let h = subst (λ v. Shows m (list_of A) v ws o) e s in inr (a, b, e, h.1, h.2, h.3)

  abbrev pub TreeCases : Ty → Val → Type 0
  TreeCases A v =
      ((get_or ws o 0 ≡ 0) × ((a : Val) × (v ≡ leaf a) × Shows m A a ws (o + 1)))
      ⊎ ((get_or ws o 0 ≡ 1) × ((a : Val) × (l : Val) × (r : Val) × (v ≡ node a l r) × Shows m A a ws (o + 1)
      × (used m (get_or ws (o + 1 + width A) 0) ≡ 1) × Shows m (tree_of A) l (words_of m (get_or ws (o + 1 + width A) 0)) 0
      × (used m (get_or ws (o + 2 + width A) 0) ≡ 1) × Shows m (tree_of A) r (words_of m (get_or ws (o + 2 + width A) 0)) 0))

  pub shown_tree : (A : Ty) (v : Val) → Shows m (tree_of A) v ws o → TreeCases A v
  unfolding Shows
  shown_tree A v s = go (top_tree A v (shows_top (tree_of A) v s))
    where
      go : ((a : Val) × (v ≡ leaf a)) ⊎ ((a : Val) × (l : Val) × (r : Val) × (v ≡ node a l r)) → TreeCases A v
      go (inl (a, e)) = let h = subst (λ v. Shows m (tree_of A) v ws o) e s in inl (h.1, (a, e, h.2))
      go (inr (a, l, r, e)) = let h = subst (λ v. Shows m (tree_of A) v ws o) e s in inr (h.1, (a, l, r, e, h.2, h.3, h.4, h.5, h.6))

  pub shown_pair : (A B : Ty) (v : Val) → Shows m (pair_of A B) v ws o → (a : Val) × (b : Val) × (v ≡ pair a b) × Shows m A a ws o × Shows m B b ws (o + width A)
  unfolding Shows
  shown_pair A B v s =
      let t = top_pair A B v (shows_top (pair_of A B) v s) in
      let h = subst (λ v. Shows m (pair_of A B) v ws o) t.2 s in
      (t.0, t.1, t.2, h.1, h.2)

  abbrev pub SumCases : Ty → Ty → Val → Type 0
  SumCases A B v = ((get_or ws o 0 ≡ 0) × ((a : Val) × (v ≡ left a) × Shows m A a ws (o + 1))) ⊎ ((get_or ws o 0 ≡ 1) × ((a : Val) × (v ≡ right a) × Shows m B a ws (o + 1)))

  pub shown_sum : (A B : Ty) (v : Val) → Shows m (sum_of A B) v ws o → SumCases A B v
  unfolding Shows
  shown_sum A B v s = go (top_sum A B v (shows_top (sum_of A B) v s))
    where
      go : ((a : Val) × (v ≡ left a)) ⊎ ((a : Val) × (v ≡ right a)) → SumCases A B v
      go (inl (a, e)) = let h = subst (λ v. Shows m (sum_of A B) v ws o) e s in inl (h.1, (a, e, h.2))
      go (inr (a, e)) = let h = subst (λ v. Shows m (sum_of A B) v ws o) e s in inr (h.1, (a, e, h.2))
