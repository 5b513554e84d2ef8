-- Sets of variables as numbers against what is said of variables.
use Rattle.std.proofs.Common.{◌≡◌, ℕ, zero, suc, ◌+◌, ◌/◌, ◌%◌, ◌^◌, ◌<◌, Bool, true, false, not, ◌&&◌, ◌||◌, eqb, leb, ◌⊎◌, List, [], ◌∷◌, ◌++◌, length, sym, refl, ap, ◌∙◌, ap₂, inl, inr, arith}
use native.Mathlib.Nat.{div_self, div-eq_of_lt}
use lib.Bits.{bit_or, bit_and, and_le_r}
use Rattle.std.proofs.Math.Bool.{and-false}
use Rattle.std.proofs.lemmas.Bool.Decides.{nat_tests}
use Rattle.std.proofs.lemmas.Nat.Bits.{bit_at-lt, bit_at_or, bit_at_and, bit_at-zero, bit_at-pow_same, bit_at-pow_other, same_from_bits_below}
use Rattle.std.proofs.lemmas.Nat.{pow_pos}
use Rattle.std.proofs.lemmas.Bool.{or_parts, eq-eqb, ne_eqb, eqb-false, true≢false, cases_Bool, cases_eq}
use Rattle.lfpl.specs.Syntax.{Ty, is_heap_free, Head, var, call, const, apply, guard, mk_pair, case_pair, mk_left, mk_right, case_sum, mk_nil, mk_cons, case_list, mk_leaf, mk_node, case_tree, Expr, Exprs, expr, end, ◌then◌, is_var, names, names_any}
use Rattle.lfpl.specs.Judge.{count, parts_naming, shares}
use Rattle.typing.specs.Scopes.{has, heavy, head_mask, mask, masks, twice}

pub has_or : (a b v : ℕ) → has (bit_or a b) v ≡ (has a v || has b v)
has_or a b v = let x = bit_at-lt a v in let y = bit_at-lt b v in rw (bit_at_or a b v) (grind (arith, nat_tests))

pub has_and : (a b v : ℕ) → has (bit_and a b) v ≡ (has a v && has b v)
has_and a b v = let x = bit_at-lt a v in let y = bit_at-lt b v in rw (bit_at_and a b v) (grind (arith, nat_tests))

pub has_none : (v : ℕ) → has 0 v ≡ false
has_none v = rw (bit_at-zero v) refl

pub has_one : (w v : ℕ) → has (2 ^ w) v ≡ eqb v w
has_one w v = go (cases_eq v w)
  where
    go : (v ≡ w) ⊎ (v ≡ w → ⊥) → has (2 ^ w) v ≡ eqb v w
    go (inl e) = rw (e, bit_at-pow_same w) (sym (eq-eqb w w refl))
    go (inr n) = rw (bit_at-pow_other w v n) (sym (ne_eqb v w n))

-- a set without a variable is 0
no_bit : (k m : ℕ) → m < 2 ^ k → ((v : ℕ) → has m v ≡ false) → m ≡ 0
no_bit k m h f = same_from_bits_below k m 0 h (pow_pos k) (λ i _. let n = eqb-false (m / 2 ^ i % 2) 1 (f i) in rw (bit_at-zero i) (omega arith))

-- the variables that occur
head_names : (h : Head) (v : ℕ) → has (head_mask h) v ≡ is_var v h
head_names (var i) v = has_one i v
head_names (call f) v = has_none v
head_names (const z) v = has_none v
head_names (apply o) v = has_none v
head_names guard v = has_none v
head_names (mk_pair A) v = has_none v
head_names case_pair v = has_none v
head_names (mk_left A) v = has_none v
head_names (mk_right A) v = has_none v
head_names case_sum v = has_none v
head_names (mk_nil A) v = has_none v
head_names mk_cons v = has_none v
head_names case_list v = has_none v
head_names (mk_leaf A) v = has_none v
head_names mk_node v = has_none v
head_names case_tree v = has_none v

mutual
  mask_names : (e : Expr) (v : ℕ) → has (mask e) v ≡ names v e
  mask_names (expr h ps qs) v =
      has_or (head_mask h) _ v ∙ ap₂ ◌||◌ (head_names h v) (has_or (masks ps) (masks qs) v ∙ ap₂ ◌||◌ (masks_names ps v) (masks_names qs v))

  masks_names : (es : Exprs) (v : ℕ) → has (masks es) v ≡ names_any v es
  masks_names end v = has_none v
  masks_names (e then es) v = has_or (mask e) (masks es) v ∙ ap₂ ◌||◌ (mask_names e v) (masks_names es v)

-- in one part, and in two
any_part : (es : Exprs) (v : ℕ) → names_any v es ≡ leb 1 (parts_naming v es)
any_part end v = refl
any_part (e then es) v = rw (any_part es v) (counted (names v e) (parts_naming v es))
  where
    counted : (b : Bool) (n : ℕ) → (b || leb 1 n) ≡ leb 1 (count b + n)
    counted true n = grind (arith, nat_tests)
    counted false n = grind (arith, nat_tests)

two_parts : (es : Exprs) (v : ℕ) → has (twice es) v ≡ leb 2 (parts_naming v es)
two_parts end v = has_none v
two_parts (e then es) v =
    has_or (bit_and (mask e) (masks es)) (twice es) v
    ∙ ap₂ ◌||◌ (has_and (mask e) (masks es) v ∙ ap₂ ◌&&◌ (mask_names e v) (masks_names es v ∙ any_part es v)) (two_parts es v)
    ∙ counted (names v e) (parts_naming v es)
  where
    counted : (b : Bool) (n : ℕ) → ((b && leb 1 n) || leb 2 n) ≡ leb 2 (count b + n)
    counted true n = grind (arith, nat_tests)
    counted false n = grind (arith, nat_tests)

-- in two parts, all arms being one
part_or_arm : (ps qs : Exprs) (v : ℕ) → has (bit_or (twice ps) (bit_and (masks ps) (masks qs))) v ≡ leb 2 (parts_naming v ps + count (names_any v qs))
part_or_arm ps qs v =
    has_or (twice ps) _ v
    ∙ ap₂ ◌||◌ (two_parts ps v) (has_and (masks ps) (masks qs) v ∙ ap₂ ◌&&◌ (masks_names ps v ∙ any_part ps v) (masks_names qs v))
    ∙ counted (parts_naming v ps) (names_any v qs)
  where
    counted : (n : ℕ) (b : Bool) → (leb 2 n || (leb 1 n && b)) ≡ leb 2 (n + count b)
    counted n true = grind (arith, nat_tests)
    counted n false = grind (arith, nat_tests)

module _ (ps qs : Exprs) where
  shared_at : ℕ → Bool
  shared_at v = leb 2 (parts_naming v ps + count (names_any v qs))

  none_shared : (Γ : List Ty) (i : ℕ) → shares i Γ ps qs ≡ false → (v : ℕ) → (shared_at (i + v) && heavy Γ v) ≡ false
  unfolding shared_at
  none_shared [] i h v = and-false (shared_at (i + v))
  none_shared (A ∷ Γ) i h zero =
      let p = or_parts (not (is_heap_free A) && shared_at i) (shares (suc i) Γ ps qs) h in
      rw (native.Mathlib.Nat.add-zero i) (swapped (not (is_heap_free A)) (shared_at i) p.0)
    where
      swapped : (a b : Bool) → (a && b) ≡ false → (b && a) ≡ false
      swapped a b h = grind arith
  none_shared (A ∷ Γ) i h (suc v) =
      let p = or_parts (not (is_heap_free A) && shared_at i) (shares (suc i) Γ ps qs) h in
      let e : i + suc v ≡ suc i + v = omega arith in
      rw e (none_shared Γ (suc i) p.1 v)

  Sharer : List Ty → ℕ → Type 0
  Sharer Γ i = (v : ℕ) × ((shared_at (i + v) && heavy Γ v) ≡ true)

  later : (A : Ty) (Γ : List Ty) (i : ℕ) → Sharer Γ (suc i) → Sharer (A ∷ Γ) i
  unfolding Sharer
  later A Γ i s = let e : i + suc s.0 ≡ suc i + s.0 = omega arith in (suc s.0, ap (λ (x : ℕ). shared_at x && heavy Γ s.0) e ∙ s.1)

  first_or_later : (A : Ty) (Γ : List Ty) (i : ℕ) (a b c : Bool) → not (is_heap_free A) ≡ a → shared_at i ≡ b → ((a && b) || c) ≡ true → (c ≡ true → Sharer Γ (suc i)) → Sharer (A ∷ Γ) i
  unfolding Sharer
  first_or_later A Γ i true true c p q h f = let e : i + 0 ≡ i = omega arith in (0, ap₂ ◌&&◌ (ap shared_at e ∙ q) p)
  first_or_later A Γ i true false c p q h f = later A Γ i (f h)
  first_or_later A Γ i false b c p q h f = later A Γ i (f h)

  some_shared : (Γ : List Ty) (i : ℕ) → shares i Γ ps qs ≡ true → Sharer Γ i
  unfolding shared_at
  some_shared [] i h = absurd (true≢false (sym h))
  some_shared (A ∷ Γ) i h = first_or_later A Γ i (not (is_heap_free A)) (leb 2 (parts_naming i ps + count (names_any i qs))) (shares (suc i) Γ ps qs) refl refl h (λ k. some_shared Γ (suc i) k)

  -- The test of the masks is the test of sharing.
  pub shares_mask : (Γ : List Ty) (tw pm am h : ℕ) → tw ≡ twice ps → pm ≡ masks ps → am ≡ masks qs → h < 2 ^ 32 → ((v : ℕ) → has h v ≡ heavy Γ v)
      → eqb (bit_and (bit_or tw (bit_and pm am)) h) 0 ≡ not (shares 0 Γ ps qs)
  unfolding shared_at Sharer
  shares_mask Γ tw pm am h t p a small heavies = go (cases_Bool (shares 0 Γ ps qs))
    where
      bit : (v : ℕ) → has (bit_and (bit_or tw (bit_and pm am)) h) v ≡ (leb 2 (parts_naming v ps + count (names_any v qs)) && heavy Γ v)
      bit v = has_and (bit_or tw (bit_and pm am)) h v ∙ ap₂ ◌&&◌ (ap (λ (x : ℕ). has x v) (ap₂ bit_or t (ap₂ bit_and p a)) ∙ part_or_arm ps qs v) (heavies v)

      go : (shares 0 Γ ps qs ≡ true) ⊎ (shares 0 Γ ps qs ≡ false) → eqb (bit_and (bit_or tw (bit_and pm am)) h) 0 ≡ not (shares 0 Γ ps qs)
      go (inl s) =
          let v = some_shared Γ 0 s in
          let at = ap (λ (x : ℕ). shared_at x && heavy Γ v.0) (omega arith) ∙ v.1 in
          ne_eqb _ 0 (λ z. true≢false (sym at ∙ sym (bit v.0) ∙ ap (λ (x : ℕ). has x v.0) z ∙ has_none v.0)) ∙ sym (ap not s)
      go (inr s) =
          eq-eqb _ 0 (no_bit 32 _ (native.Mathlib.Nat.lt_of_le_of_lt (and_le_r _ h) small) (λ v. bit v ∙ ap (λ (x : ℕ). shared_at x && heavy Γ v) (omega arith) ∙ none_shared Γ 0 s v)) ∙ sym (ap not s)

-- one variable more
pub heavy_push : (Γ : List Ty) (A : Ty) (v : ℕ) → heavy (Γ ++ A ∷ []) v ≡ (heavy Γ v || (not (is_heap_free A) && eqb v (length Γ)))
heavy_push [] A zero = grind (arith, nat_tests)
heavy_push [] A (suc v) = grind (arith, nat_tests)
heavy_push (B ∷ Γ) A zero = grind (arith, nat_tests)
heavy_push (B ∷ Γ) A (suc v) = rw (heavy_push Γ A v) (grind (arith, nat_tests))
