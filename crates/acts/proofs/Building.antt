-- Heads that give a value and alter no cell.
use Rattle.std.proofs.Common.{◌≡◌, ℕ, ◌+◌, ◌<◌, Bool, true, false, ◌||◌, eqb, List, [], ◌∷◌, ◌++◌, length, get_or, ℤ, sym, refl, ap, ◌∙◌, subst, ap₂, arith, get_or-set_same, w32, SFits, to_z, of_z}
use lib.Signed.{le_z}
use Rattle.std.proofs.lemmas.Int.{to_z-of_z, SFits-int_wrap}
use Rattle.std.proofs.lemmas.Bool.{ltb-true, eq-eqb, or_left}
use Rattle.lfpl.specs.Syntax.{Infix, plus, minus, times, equal, at_most, Ty, int, list_of, tree_of, pair_of, sum_of, width, first, second, Head, var, const, apply, mk_pair, mk_left, mk_right, mk_nil, mk_leaf, expr, end, names, names_any, Exprs, Fun}
use Rattle.lfpl.specs.Typing.{type_at}
use Rattle.lfpl.specs.Values.{Val, num, nil, leaf, pair, left, right, Typed, ◌of◌}
use Rattle.lfpl.proofs.SameTypes.{same_eq}
use Rattle.meaning.specs.Act.{Act, wrap, flag, eq_z, compute, number_of, types}
use Rattle.pool.specs.Pools.{Meaning}
use Rattle.store.specs.Layout.{Shows, footprint, occ}
use Rattle.store.proofs.Moves.{moved, occ_append}
use Rattle.store.proofs.Shown.{shown_int}
use Rattle.code.specs.Standing.{code_infix}
use Rattle.code.specs.declared.Next.{Next}
use Rattle.code.specs.declared.Next.TheVariants.{Value}
use Rattle.acts.specs.Effects.{operator_of, applied, Tagged}
use Rattle.acts.specs.Places.{cells_at, from, Above}
use Rattle.acts.specs.Settling.{Settles, Gave, Acts}
use Rattle.acts.proofs.Lying.{length_types, found, at_from, window_of}
use Rattle.acts.proofs.Settled.{part, above_set, Right, known, roomed, gives}

-- what is computed is a number that 32 bits hold
flag_fits : (b : Bool) → SFits w32 (flag b)
flag_fits true = record { sfits = omega arith }
flag_fits false = record { sfits = omega arith }

compute_fits : (o : Infix) (a b : ℤ) → SFits w32 (compute o a b)
compute_fits plus a b = SFits-int_wrap w32 _
compute_fits minus a b = SFits-int_wrap w32 _
compute_fits times a b = SFits-int_wrap w32 _
compute_fits equal a b = flag_fits (eq_z a b)
compute_fits at_most a b = flag_fits (le_z a b)

operator_is : (o : Infix) → operator_of (code_infix o) ≡ o
operator_is plus = refl
operator_is minus = refl
operator_is times = refl
operator_is equal = refl
operator_is at_most = refl

-- the word of a result is read back as what is computed
applied_is : (o : Infix) (x y : ℕ) → to_z w32 (applied (code_infix o) x y) ≡ compute o (to_z w32 x) (to_z w32 y)
applied_is o x y = to_z-of_z w32 _ (compute_fits (operator_of (code_infix o)) (to_z w32 x) (to_z w32 y)) ∙ ap (λ p. compute p (to_z w32 x) (to_z w32 y)) (operator_is o)

module _ (fs : List Fun) (m : Meaning) (ws : List ℕ) (base at dest : ℕ) (qs : Exprs) (env : List Typed) (ps : List ℕ) (B W : Ty) where
  pub const_right : (z : ℤ) (vs : List Typed) → Right fs m ws base at dest qs env ps B W (const z) vs
  unfolding Shows footprint
  const_right z vs s = (
    roomed fs m ws base at dest qs env ps B W (const z) vs s tt,
    λ r m' ys e.
        let k : get_or ys dest 0 ≡ of_z w32 (wrap z) = ap (λ l. get_or l dest 0) e.2 ∙ get_or-set_same ws dest (of_z w32 (wrap z)) 0 (omega (arith, s.high, s.down)) in
        gives fs m ws base at dest qs env ps B W (const z) vs r m' ys (num (wrap z) of int) e.0 e.1 s.whole
        (refl, sym (ap (to_z w32) k ∙ to_z-of_z w32 (wrap z) (SFits-int_wrap w32 z)))
        (subst (λ l. Above ws l dest) (sym e.2) (above_set ws dest (of_z w32 (wrap z)))) (λ c. omega arith),
  )

  pub nil_right : (A : Ty) (vs : List Typed) → Right fs m ws base at dest qs env ps B W (mk_nil A) vs
  unfolding Shows footprint
  nil_right A vs s = (
    roomed fs m ws base at dest qs env ps B W (mk_nil A) vs s tt,
    λ r m' ys e.
        let t = known fs m ws base at dest qs env ps B W (mk_nil A) vs s in
        let k : get_or ys dest 0 ≡ 0 = ap (λ l. get_or l dest 0) e.2 ∙ get_or-set_same ws dest 0 0 (omega (arith, s.high, s.down)) in
        gives fs m ws base at dest qs env ps B W (mk_nil A) vs r m' ys (nil of A) e.0 e.1 s.whole
        (same_eq A (list_of (first A)) t.0, k)
        (subst (λ l. Above ws l dest) (sym e.2) (above_set ws dest 0)) (λ c. omega arith),
  )

  pub var_right : (i : ℕ) (vs : List Typed) → Right fs m ws base at dest qs env ps B W (var i) vs
  var_right i vs s =
      let t = known fs m ws base at dest qs env ps B W (var i) vs s in
      let l : i < length env = omega (arith, ltb-true i (length (types env)) t.0, length_types env) in
      let f = found m ws at (λ j. names j (expr (var i) end qs)) env (from base ps) i l (or_left (eqb i i) (false || names_any i qs) (eq-eqb i i refl)) s.variables in
      let x = f.0 in
      let q = at_from base ps i (omega (arith, s.long)) in
      let p = part m ws x x.type at (get_or (from base ps) i 0) (base + get_or ps i 0) refl q f.3 in
      let w = ap width f.2 in
      let w' = ap width s.whole in (
        roomed fs m ws base at dest qs env ps B W (var i) vs s (omega (arith, s.narrow.low), omega (arith, f.3.below)),
        λ r m' ys e.
            let v = moved m m x.type x.value ws ys (base + get_or ps i 0) dest p.0
            (window_of ws ys (base + get_or ps i 0) dest (width x.type) (λ k h. e.2.there k (omega arith))) (λ c h. refl) in
            subst (λ (a : Act). Acts fs m ws base at dest (var i) qs env vs ps W r m' ys a) (sym f.1)
            (gives fs m ws base at dest qs env ps B W (var i) vs r m' ys x e.0 e.1 (sym f.2 ∙ s.whole) v.0 e.2.above
            (λ c. omega (arith, f.4 c, ap (λ l. occ c l) p.1, ap (λ l. occ c l) v.1))),
      )

  pub apply_right : (o : Infix) (a b : Typed) → Right fs m ws base at dest qs env ps B W (apply o) (a ∷ b ∷ [])
  unfolding Shows footprint
  apply_right o a b s = (
    roomed fs m ws base at dest qs env ps B W (apply o) (a ∷ b ∷ []) s tt,
    λ r m' ys e.
        let t = known fs m ws base at dest qs env ps B W (apply o) (a ∷ b ∷ []) s in
        let ta = ap (λ l. type_at l 0) t.1 in
        let tb = ap (λ l. type_at l 1) t.1 in
        let w = ap width ta in
        let za = shown_int m ws at a.value (part m ws a int _ at at ta refl (s.values.0 refl)).0 in
        let zb = shown_int m ws (at + 1) b.value (part m ws b int _ (at + width a.type) (at + 1) tb (omega arith) (s.values.1.0 refl)).0 in
        let x = get_or ws at 0 in
        let y = get_or ws (at + 1) 0 in
        let z = applied (code_infix o) x y in
        let k : get_or ys dest 0 ≡ z = ap (λ l. get_or l dest 0) e.2 ∙ get_or-set_same ws dest z 0 (omega (arith, s.high, s.down)) in
        gives fs m ws base at dest qs env ps B W (apply o) (a ∷ b ∷ []) r m' ys (num (compute o (number_of a.value) (number_of b.value)) of int) e.0 e.1 s.whole
        (refl, ap₂ (λ u v. compute o u v) (ap number_of za) (ap number_of zb) ∙ sym (ap (to_z w32) k ∙ applied_is o x y))
        (subst (λ l. Above ws l dest) (sym e.2) (above_set ws dest z)) (λ c. omega arith),
  )

  pub pair_right : (A : Ty) (a b : Typed) → Right fs m ws base at dest qs env ps B W (mk_pair A) (a ∷ b ∷ [])
  unfolding Shows footprint
  pair_right A a b s =
      let vs = a ∷ b ∷ [] in
      let t = known fs m ws base at dest qs env ps B W (mk_pair A) vs s in
      let ta = ap (λ l. type_at l 0) t.1 in
      let tb = ap (λ l. type_at l 1) t.1 in
      let w = ap width ta in
      let w' = ap width s.whole in
      let pa = part m ws a (first A) _ at at ta refl (s.values.0 refl) in
      let pb = part m ws b (second A) _ (at + width a.type) (at + width (first A)) tb (omega arith) (s.values.1.0 refl) in (
        roomed fs m ws base at dest qs env ps B W (mk_pair A) vs s (omega (arith, s.narrow.low)),
        λ r m' ys e.
            let p = pair a.value b.value in
            let v = moved m m A p ws ys at dest (same_eq A (pair_of (first A) (second A)) t.0, pa.0, pb.0) (window_of ws ys at dest (width A) e.2.there) (λ c h. refl) in
            let ya = cells_at m ws a at in
            let yb = cells_at m ws b (at + width a.type) in
            gives fs m ws base at dest qs env ps B W (mk_pair A) vs r m' ys (p of A) e.0 e.1 s.whole v.0 e.2.above
            (λ c. omega (
              arith,
              occ_append c ya (yb ++ []),
              occ_append c yb [],
              ap (λ l. occ c l) pa.1,
              ap (λ l. occ c l) pb.1,
              ap (λ l. occ c l) v.1,
              occ_append c (footprint m (first A) a.value ws at) (footprint m (second A) b.value ws (at + width (first A))),
            )),
      )

  -- a mark before a part of the type T makes a value of the type A
  tag_gave : (h : Head) (a : Typed) (r : Next) (m' : Meaning) (ys : List ℕ) (A T : Ty) (mark : ℕ) (v : Val) → Settles fs m ws base at dest h qs env (a ∷ []) ps B W
      → ◌≡◌ {A = List Ty} (a.type ∷ []) (T ∷ []) → r ≡ Value → m' ≡ m → A ≡ W → Tagged ws ys mark at dest (width T)
      → (get_or ys dest 0 ≡ mark → Shows m T a.value ys (dest + 1) → Shows m A v ys dest) → footprint m A v ys dest ≡ footprint m T a.value ys (dest + 1)
      → Gave fs m ws base at dest h qs env (a ∷ []) ps W r m' ys (v of A)
  tag_gave h a r m' ys A T mark v s t n e w d f g =
      let p = part m ws a T _ at at (ap (λ l. type_at l 0) t) refl (s.values.0 refl) in
      let k = moved m m T a.value ws ys at (dest + 1) p.0 (window_of ws ys at (dest + 1) (width T) d.there) (λ c h. refl) in
      gives fs m ws base at dest qs env ps B W h (a ∷ []) r m' ys (v of A) n e w (f d.mark_is k.0) d.above
      (λ c. omega (arith, ap (λ l. occ c l) p.1, ap (λ l. occ c l) k.1, ap (λ l. occ c l) g, occ_append c (cells_at m ws a at) []))

  pub left_right : (A : Ty) (a : Typed) → Right fs m ws base at dest qs env ps B W (mk_left A) (a ∷ [])
  unfolding Shows footprint
  left_right A a s =
      let t = known fs m ws base at dest qs env ps B W (mk_left A) (a ∷ []) s in
      let x = same_eq A (sum_of (first A) (second A)) t.0 in (
        roomed fs m ws base at dest qs env ps B W (mk_left A) (a ∷ []) s (omega (arith, s.narrow.low, ap width s.whole, ap width x)),
        λ r m' ys e.
            tag_gave (mk_left A) a r m' ys A (first A) 0 (left a.value) s t.1 e.0 e.1 s.whole e.2 (λ k y. (x, k, y)) refl,
      )

  pub right_right : (A : Ty) (a : Typed) → Right fs m ws base at dest qs env ps B W (mk_right A) (a ∷ [])
  unfolding Shows footprint
  right_right A a s =
      let t = known fs m ws base at dest qs env ps B W (mk_right A) (a ∷ []) s in
      let x = same_eq A (sum_of (first A) (second A)) t.0 in (
        roomed fs m ws base at dest qs env ps B W (mk_right A) (a ∷ []) s (omega (arith, s.narrow.low, ap width s.whole, ap width x)),
        λ r m' ys e.
            tag_gave (mk_right A) a r m' ys A (second A) 1 (right a.value) s t.1 e.0 e.1 s.whole e.2 (λ k y. (x, k, y)) refl,
      )

  pub leaf_right : (A : Ty) (a : Typed) → Right fs m ws base at dest qs env ps B W (mk_leaf A) (a ∷ [])
  unfolding Shows footprint
  leaf_right A a s =
      let t = known fs m ws base at dest qs env ps B W (mk_leaf A) (a ∷ []) s in
      let x = same_eq A (tree_of (first A)) t.0 in (
        roomed fs m ws base at dest qs env ps B W (mk_leaf A) (a ∷ []) s (omega (arith, s.narrow.low, ap width s.whole, ap width x)),
        λ r m' ys e.
            tag_gave (mk_leaf A) a r m' ys A (first A) 0 (leaf a.value) s t.1 e.0 e.1 s.whole e.2 (λ k y. (x, k, y)) refl,
      )
