-- What the bytes of a value say, by its type and the number that stands first.
use Rattle.std.proofs.Common.{◌≡◌, ℕ, ◌⊎◌, List, drop, sym, refl, ap, ◌∙◌, subst, inl, inr}
use Rattle.codec.specs.Integer.{unzigzag}
use Rattle.codec.specs.Number.{number}
use Rattle.lfpl.specs.Syntax.{Ty, int, diamond, list_of, tree_of, pair_of, sum_of}
use Rattle.lfpl.specs.Values.{Val, num, dia, nil, cons, leaf, node, pair, left, right}
use Rattle.store.specs.Spelling.{Number, Spells, read_from}
use Rattle.store.proofs.Tops.{Top, top_int, top_dia, top_list, top_tree, top_pair, top_sum}

spells_top : (bs : List ℕ) (p q : ℕ) (A : Ty) (v : Val) → Spells bs A v p q → Top A v
unfolding Spells
spells_top bs p q A (num z) s = s.0
spells_top bs p q A dia s = s.0
spells_top bs p q A nil s = s.0
spells_top bs p q A (cons a b) s = s.0
spells_top bs p q A (leaf a) s = s.0
spells_top bs p q A (node a l r) s = s.0
spells_top bs p q A (pair a b) s = s.0
spells_top bs p q A (left a) s = s.0
spells_top bs p q A (right a) s = s.0

pub spelt_dia : (bs : List ℕ) (p q : ℕ) (v : Val) → Spells bs diamond v p q → (v ≡ dia) × (q ≡ p)
unfolding Spells
spelt_dia bs p q v s = let t = top_dia v (spells_top bs p q diamond v s) in (t, (subst (λ v. Spells bs diamond v p q) t s).1)

pub spelt_pair : (bs : List ℕ) (p q : ℕ) (A B : Ty) (v : Val) → Spells bs (pair_of A B) v p q → (a : Val) × (b : Val) × (i : ℕ) × (v ≡ pair a b) × Spells bs A a p i × Spells bs B b i q
unfolding Spells
spelt_pair bs p q A B v s =
    let t = top_pair A B v (spells_top bs p q (pair_of A B) v s) in
    let h = (subst (λ v. Spells bs (pair_of A B) v p q) t.2 s).1 in
    (t.0, t.1, h.0, t.2, h.1, h.2)

module _ (bs : List ℕ) (p q mark end : ℕ) (r : read_from p (number (drop p bs)) ≡ (mark, end)) where
  first_is : (c e : ℕ) → Number bs p c e → (mark ≡ c) × (end ≡ e)
  first_is c e n =
      let z = sym r ∙ ap (read_from p) n.1 ∙ ap (λ x. (c, x)) (sym n.2) in
      (ap (λ x. x.0) z, ap (λ x. x.1) z)

  pub spelt_int : (v : Val) → Spells bs int v p q → (v ≡ num (unzigzag mark)) × (q ≡ end)
  unfolding Spells
  spelt_int v s =
      let t = top_int v (spells_top bs p q int v s) in
      let h = (subst (λ v. Spells bs int v p q) t.1 s).1 in
      let k = first_is h.0 q h.1 in
      (t.1 ∙ ap num (h.2 ∙ ap unzigzag (sym k.0)), sym k.1)

  abbrev pub ListSpelt : Ty → Val → Type 0
  ListSpelt A v = ((mark ≡ 0) × (v ≡ nil) × (q ≡ end)) ⊎ ((mark ≡ 1) × ((a : Val) × (b : Val) × (v ≡ cons a b) × Spells bs (pair_of A (list_of A)) (pair a b) end q))

  pub spelt_list : (A : Ty) (v : Val) → Spells bs (list_of A) v p q → ListSpelt A v
  unfolding Spells
  spelt_list A v s = go (top_list A v (spells_top bs p q (list_of A) v s))
    where
      go : (v ≡ nil) ⊎ ((a : Val) × (b : Val) × (v ≡ cons a b)) → ListSpelt A v
      go (inl e) = let k = first_is 0 q (subst (λ v. Spells bs (list_of A) v p q) e s).1 in inl (k.0, e, sym k.1)
      go (inr (a, b, e)) =
          let h = (subst (λ v. Spells bs (list_of A) v p q) e s).1 in
          let k = first_is 1 h.0 h.2 in
          inr (k.0, (a, b, e, (refl, (h.1, subst (λ i. Spells bs A a i h.1) (sym k.1) h.3, h.4))))

  abbrev pub TreeSpelt : Ty → Val → Type 0
  TreeSpelt A v =
      ((mark ≡ 0) × ((a : Val) × (v ≡ leaf a) × Spells bs A a end q))
      ⊎ ((mark ≡ 1) × ((a : Val) × (l : Val) × (r : Val) × (j : ℕ) × (k : ℕ) × (v ≡ node a l r) × Spells bs A a end j × Spells bs (tree_of A) l j k × Spells bs (tree_of A) r k q))

  pub spelt_tree : (A : Ty) (v : Val) → Spells bs (tree_of A) v p q → TreeSpelt A v
  unfolding Spells
  spelt_tree A v s = go (top_tree A v (spells_top bs p q (tree_of A) v s))
    where
      go : ((a : Val) × (v ≡ leaf a)) ⊎ ((a : Val) × (l : Val) × (r : Val) × (v ≡ node a l r)) → TreeSpelt A v
      go (inl (a, e)) =
          let h = (subst (λ v. Spells bs (tree_of A) v p q) e s).1 in
          let k = first_is 0 h.0 h.1 in
          inl (k.0, (a, e, subst (λ i. Spells bs A a i q) (sym k.1) h.2))
      go (inr (a, l, r, e)) =
          let h = (subst (λ v. Spells bs (tree_of A) v p q) e s).1 in
          let k = first_is 1 h.0 h.3 in
          inr (k.0, (a, l, r, h.1, h.2, e, subst (λ i. Spells bs A a i h.1) (sym k.1) h.4, h.5, h.6))

  abbrev pub SumSpelt : Ty → Ty → Val → Type 0
  SumSpelt A B v = ((mark ≡ 0) × ((a : Val) × (v ≡ left a) × Spells bs A a end q)) ⊎ ((mark ≡ 1) × ((a : Val) × (v ≡ right a) × Spells bs B a end q))

  pub spelt_sum : (A B : Ty) (v : Val) → Spells bs (sum_of A B) v p q → SumSpelt A B v
  unfolding Spells
  spelt_sum A B v s = go (top_sum A B v (spells_top bs p q (sum_of A B) v s))
    where
      go : ((a : Val) × (v ≡ left a)) ⊎ ((a : Val) × (v ≡ right a)) → SumSpelt A B v
      go (inl (a, e)) =
          let h = (subst (λ v. Spells bs (sum_of A B) v p q) e s).1 in
          let k = first_is 0 h.0 h.1 in
          inl (k.0, (a, e, subst (λ i. Spells bs A a i q) (sym k.1) h.2))
      go (inr (a, e)) =
          let h = (subst (λ v. Spells bs (sum_of A B) v p q) e s).1 in
          let k = first_is 1 h.0 h.1 in
          inr (k.0, (a, e, subst (λ i. Spells bs B a i q) (sym k.1) h.2))
