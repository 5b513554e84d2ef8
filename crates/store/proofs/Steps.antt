-- What each form of type's branch builds.
use Rattle.std.proofs.Common.{◌≡◌, ℕ, ◌+◌, ◌^◌, ◌<◌, cond, eqb, List, length, drop, set, sym, ap, ◌∙◌, subst, inl, inr, arith, to_z-of_z, w32, to_z, of_z}
use Rattle.codec.specs.Integer.{unzigzag}
use Rattle.codec.specs.Number.{number}
use Rattle.lfpl.specs.Syntax.{Ty, int, diamond, list_of, tree_of, pair_of, sum_of, width}
use Rattle.lfpl.specs.Values.{Val, node, pair, charge}
use Rattle.pool.specs.Pools.{Meaning}
use Rattle.store.specs.Building.{Boxes, Built, Builds, Fresh}
use Rattle.store.specs.Spelling.{Spells, read_from}
use Rattle.store.proofs.Builds.{boxed, built_num, built_dia, built_nil, built_cons, built_pair, built_left, built_right, built_leaf, built_node}
use Rattle.store.proofs.Decodes.{unzigzag_fits}
use Rattle.store.proofs.Spelt.{spelt_int, spelt_dia, spelt_list, spelt_tree, spelt_pair, spelt_sum}

-- the value v is built, up to the place q
abbrev Done : Meaning → List ℕ → Ty → ℕ → Meaning → List ℕ → ℕ → ℕ → Val → Type 0
Done m ws A o m' ws' r q v = (r ≡ q) × Built m ws A v o m' ws'

pub step_dia : (bs : List ℕ) (A : Ty) (at : ℕ) (m m' : Meaning) (ws xs : List ℕ) (o c : ℕ) → A ≡ diamond → o < length ws
    → (0 < m.free → Fresh m xs c m') → Builds bs A at at m ws o m' (set ws o c)
step_dia bs A at m m' ws xs o c e l f = subst (λ X. Builds bs X at at m ws o m' (set ws o c)) (sym e) (λ v q s k.
    let x = spelt_dia bs at q v s in
    subst (Done m ws diamond o m' (set ws o c) at q) (sym x.0) (sym x.1, built_dia m m' ws xs o c l (f (omega (arith, ap charge x.0)))))

pub step_pair : (bs : List ℕ) (A B : Ty) (at mid last : ℕ) (m m₁ m₂ : Meaning) (ws ws₁ ws₂ : List ℕ) (o n : ℕ) → n ≡ o + width A
    → Builds bs A at mid m ws o m₁ ws₁ → Builds bs B mid last m₁ ws₁ n m₂ ws₂ → Builds bs (pair_of A B) at last m ws o m₂ ws₂
step_pair bs A B at mid last m m₁ m₂ ws ws₁ ws₂ o n w p q v z s k =
    let x = spelt_pair bs at z A B v s in
    let kv = ap charge x.3 in
    let h₁ = p x.0 x.2 x.4 (omega (arith, kv)) in
    let h₂ = subst (λ n. Builds bs B mid last m₁ ws₁ n m₂ ws₂) w q x.1 z (subst (λ i. Spells bs B x.1 i z) (sym h₁.0) x.5) (omega (arith, kv, h₁.1.holds.count)) in
    subst (Done m ws (pair_of A B) o m₂ ws₂ last z) (sym x.3) (h₂.0, built_pair m m₁ m₂ A B x.0 x.1 ws ws₁ ws₂ o h₁.1 h₂.1)

pub step_box : (bs : List ℕ) (A : Ty) (at end : ℕ) (m m₁ m₂ : Meaning) (ws ws₁ : List ℕ) (c : ℕ) → Builds bs A at end m ws 0 m₁ ws₁ → (0 < m₁.free → Fresh m₁ ws₁ c m₂)
    → Boxes bs A at (c, end) m m₂
step_box bs A at end m m₁ m₂ ws ws₁ c p f v q s k =
    let h = p v q s (omega arith) in
    (h.0, boxed m m₁ m₂ ws ws₁ A v c h.1 (f (omega (arith, h.1.holds.count))))

module _ (bs : List ℕ) (at mark end : ℕ) (r : (mark, end) ≡ read_from at (number (drop at bs))) where
  pub step_num : (A : Ty) (m : Meaning) (ws : List ℕ) (o n : ℕ) → A ≡ int → o < length ws → mark < 2 ^ 32 → n ≡ of_z w32 (to_z w32 (of_z w32 (unzigzag mark))) → Builds bs A at end m ws o m (set ws o n)
  step_num A m ws o n e l f w = subst (λ X. Builds bs X at end m ws o m (set ws o n)) (sym e) (λ v q s k.
      let x = spelt_int bs at q mark end (sym r) v s in
      let r : to_z w32 (of_z w32 (unzigzag mark)) ≡ unzigzag mark = to_z-of_z (unzigzag_fits mark f) in
      let z : unzigzag mark ≡ to_z w32 n = sym r ∙ ap (λ y. to_z w32 (of_z w32 y)) (sym r) ∙ ap (to_z w32) (sym w) in
      subst (Done m ws int o m (set ws o n) end q) (sym x.0) (sym x.1, built_num m ws (unzigzag mark) o n l z))

  pub step_nil : (A B : Ty) (m : Meaning) (ws : List ℕ) (o : ℕ) → A ≡ list_of B → o < length ws → mark ≡ 0 → Builds bs A at end m ws o m (set ws o 0)
  step_nil A B m ws o e l z = subst (λ X. Builds bs X at end m ws o m (set ws o 0)) (sym e) (λ v q s k. elim (spelt_list bs at q mark end (sym r) B v s) [
    | inl x ↦ subst (Done m ws (list_of B) o m (set ws o 0) end q) (sym x.1) (sym x.2, built_nil m ws B o l)
    | inr x ↦ absurd (omega (arith, x.0, z))
  ])

  pub step_cons : (A B : Ty) (last : ℕ) (m m₁ m₂ : Meaning) (xs xs₁ ws : List ℕ) (o c : ℕ) → A ≡ list_of B → o < length ws → 0 < mark
      → Builds bs (pair_of B A) end last m xs 0 m₁ xs₁ → (0 < m₁.free → Fresh m₁ xs₁ c m₂) → Builds bs A at last m ws o m₂ (set ws o c)
  step_cons A B last m m₁ m₂ xs xs₁ ws o c e l z p f = subst (λ X. Builds bs X at last m ws o m₂ (set ws o c)) (sym e) (λ v q s k. elim (spelt_list bs at q mark end (sym r) B v s) [
    | inl x ↦ absurd (omega (arith, x.0, z))
    | inr h ↦
        let x = h.1 in
        let kv = ap charge x.2 in
        let b = subst (λ X. Builds bs (pair_of B X) end last m xs 0 m₁ xs₁) e p (pair x.0 x.1) q x.3 (omega (arith, kv, k)) in
        let y = boxed m m₁ m₂ xs xs₁ (pair_of B (list_of B)) (pair x.0 x.1) c b.1 (f (omega (arith, kv, k, b.1.holds.count))) in
        subst (Done m ws (list_of B) o m₂ (set ws o c) last q) (sym x.2) (b.0, built_cons m m₂ ws B x.0 x.1 o c l y)
  ])

  pub step_leaf : (A B : Ty) (mid : ℕ) (m m₁ : Meaning) (ws ws₁ : List ℕ) (o : ℕ) → A ≡ tree_of B → o < length ws → mark ≡ 0
      → Builds bs B end mid m (set ws o mark) (o + 1) m₁ ws₁ → Builds bs A at mid m ws o m₁ ws₁
  step_leaf A B mid m m₁ ws ws₁ o e l z p = subst (λ X. Builds bs X at mid m ws o m₁ ws₁) (sym e) (λ v q s k. elim (spelt_tree bs at q mark end (sym r) B v s) [
    | inl h ↦
        let x = h.1 in
        let b = subst (λ y. Builds bs B end mid m (set ws o y) (o + 1) m₁ ws₁) z p x.0 q x.2 (omega (arith, ap charge x.1, k)) in
        subst (Done m ws (tree_of B) o m₁ ws₁ mid q) (sym x.1) (b.0, built_leaf m m₁ B int x.0 ws ws₁ o l b.1)
    | inr h ↦ absurd (omega (arith, h.0, z))
  ])

  pub step_node : (A B : Ty) (mid : ℕ) (left right : ℕ × ℕ) (m m₁ m₂ m₃ : Meaning) (ws ws₁ : List ℕ) (o n₁ n₂ : ℕ) → A ≡ tree_of B
      → n₁ ≡ o + 1 + width B → n₂ ≡ o + 2 + width B → o < length ws → n₂ < length ws₁ → 0 < mark
      → Builds bs B end mid m (set ws o mark) (o + 1) m₁ ws₁ → Boxes bs A mid left m₁ m₂ → Boxes bs A left.1 right m₂ m₃
      → Builds bs A at right.1 m ws o m₃ (set (set ws₁ n₁ left.0) n₂ right.0)
  step_node A B mid lf rt m m₁ m₂ m₃ ws ws₁ o n₁ n₂ e w₁ w₂ l l₂ z p f g =
      subst (λ X. Builds bs X at rt.1 m ws o m₃ (set (set ws₁ n₁ lf.0) n₂ rt.0)) (sym e) (λ v q s k. elim (spelt_tree bs at q mark end (sym r) B v s) [
        | inl h ↦ absurd (omega (arith, h.0, z))
        | inr h ↦
            let x = h.1 in
            let kv = ap charge x.5 in
            let b = subst (λ y. Builds bs B end mid m (set ws o y) (o + 1) m₁ ws₁) h.0 p x.0 x.3 x.6 (omega (arith, kv, k)) in
            let c = subst (λ X. Boxes bs X mid lf m₁ m₂) e f x.1 x.4 (subst (λ y. Spells bs (tree_of B) x.1 y x.4) (sym b.0) x.7) (omega (arith, kv, k, b.1.holds.count)) in
            let d = subst (λ X. Boxes bs X lf.1 rt m₂ m₃) e g x.2 q (subst (λ y. Spells bs (tree_of B) x.2 y q) (sym c.0) x.8) (omega (arith, kv, k, b.1.holds.count, c.1.count)) in
            let y = built_node m m₁ m₂ m₃ B x.0 x.1 x.2 ws ws₁ o lf.0 rt.0 l (omega arith) b.1 c.1 d.1 in
            let y₁ = subst (λ i. Built m ws (tree_of B) (node x.0 x.1 x.2) o m₃ (set (set ws₁ i lf.0) (o + 2 + width B) rt.0)) (sym w₁) y in
            let y₂ = subst (λ i. Built m ws (tree_of B) (node x.0 x.1 x.2) o m₃ (set (set ws₁ n₁ lf.0) i rt.0)) (sym w₂) y₁ in
            subst (Done m ws (tree_of B) o m₃ (set (set ws₁ n₁ lf.0) n₂ rt.0) rt.1 q) (sym x.5) (d.0, y₂)
      ])

  pub step_sum : (A B C D : Ty) (last : ℕ) (m m₁ : Meaning) (ws ws₁ : List ℕ) (o : ℕ) → A ≡ sum_of B C → o < length ws → D ≡ cond (eqb mark 0) B C
      → Builds bs D end last m (set ws o mark) (o + 1) m₁ ws₁ → Builds bs A at last m ws o m₁ ws₁
  step_sum A B C D last m m₁ ws ws₁ o e l d p = subst (λ X. Builds bs X at last m ws o m₁ ws₁) (sym e) (λ v q s k. elim (spelt_sum bs at q mark end (sym r) B C v s) [
    | inl h ↦
        let x = h.1 in
        let t : D ≡ B = d ∙ ap (λ i. cond (eqb i 0) B C) h.0 in
        let p₁ = subst (λ X. Builds bs X end last m (set ws o 0) (o + 1) m₁ ws₁) t (subst (λ y. Builds bs D end last m (set ws o y) (o + 1) m₁ ws₁) h.0 p) in
        let b = p₁ x.0 q x.2 (omega (arith, ap charge x.1, k)) in
        subst (Done m ws (sum_of B C) o m₁ ws₁ last q) (sym x.1) (b.0, built_left m m₁ B C x.0 ws ws₁ o l b.1)
    | inr h ↦
        let x = h.1 in
        let t : D ≡ C = d ∙ ap (λ i. cond (eqb i 0) B C) h.0 in
        let p₁ = subst (λ X. Builds bs X end last m (set ws o 1) (o + 1) m₁ ws₁) t (subst (λ y. Builds bs D end last m (set ws o y) (o + 1) m₁ ws₁) h.0 p) in
        let b = p₁ x.0 q x.2 (omega (arith, ap charge x.1, k)) in
        subst (Done m ws (sum_of B C) o m₁ ws₁ last q) (sym x.1) (b.0, built_right m m₁ B C x.0 ws ws₁ o l b.1)
  ])
