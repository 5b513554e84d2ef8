-- The law, head by head.
use Rattle.std.proofs.Common.{◌≡◌, ℕ, Bool, cond, List, [], ◌∷◌, length, sym, refl, ap, ◌∙◌, subst}
use Rattle.std.proofs.lemmas.Bool.{ltb-true}
use Rattle.lfpl.specs.Syntax.{Ty, Head, var, call, const, apply, guard, mk_pair, case_pair, mk_left, mk_right, case_sum, mk_nil, mk_cons, case_list, mk_leaf, mk_node, case_tree, Exprs, Fun}
use Rattle.lfpl.specs.Typing.{rule}
use Rattle.lfpl.specs.Values.{Typed}
use Rattle.meaning.specs.Act.{stuck, does, types}
use Rattle.pool.specs.Pools.{Meaning}
use Rattle.acts.specs.Settling.{Acts, InPlaceLaw}
use Rattle.acts.proofs.Settled.{by1, by2, by3, by5, Right, known, roomed}
use Rattle.acts.proofs.Building.{var_right, const_right, apply_right, pair_right, left_right, right_right, nil_right, leaf_right}
use Rattle.acts.proofs.Choosing.{guard_right, split_right, sum_right, list_right, tree_right}
use Rattle.acts.proofs.Keeping.{cons_right, node_right}

module _ (fs : List Fun) (m : Meaning) (ws : List ℕ) (base at dest : ℕ) (qs : Exprs) (env : List Typed) (ps : List ℕ) (B W : Ty) where
  call_right : (f : ℕ) (vs : List Typed) → Right fs m ws base at dest qs env ps B W (call f) vs
  call_right f vs s =
      let t = known fs m ws base at dest qs env ps B W (call f) vs s in (
        roomed fs m ws base at dest qs env ps B W (call f) vs s tt,
        λ r m' ys e. record {
          next = e.0;
          pool = e.1;
          words = e.2;
          arguments = refl;
          known = ltb-true f (length fs) t.0;
          params = t.1;
          result = s.whole;
        },
      )

  -- a head that wants one part is right of any parts where it is right of one
  of_one : (h : Head) → ((vs : List Typed) → length (rule fs (types env) h (types vs)).wants ≡ 1) → ((a : Typed) → Right fs m ws base at dest qs env ps B W h (a ∷ [])) → (vs : List Typed) → Right fs m ws base at dest qs env ps B W h vs
  of_one h n k vs s = by1 (Right fs m ws base at dest qs env ps B W h) vs (ap length (known fs m ws base at dest qs env ps B W h vs s).1 ∙ n vs) k s

  of_two : (h : Head) → ((vs : List Typed) → length (rule fs (types env) h (types vs)).wants ≡ 2) → ((a b : Typed) → Right fs m ws base at dest qs env ps B W h (a ∷ b ∷ [])) → (vs : List Typed) → Right fs m ws base at dest qs env ps B W h vs
  of_two h n k vs s = by2 (Right fs m ws base at dest qs env ps B W h) vs (ap length (known fs m ws base at dest qs env ps B W h vs s).1 ∙ n vs) k s

  head_right : (h : Head) (vs : List Typed) → Right fs m ws base at dest qs env ps B W h vs
  head_right (var i) = var_right fs m ws base at dest qs env ps B W i
  head_right (call f) = call_right f
  head_right (const z) = const_right fs m ws base at dest qs env ps B W z
  head_right (apply o) = of_two (apply o) (λ vs. refl) (apply_right fs m ws base at dest qs env ps B W o)
  head_right guard = of_one guard (λ vs. refl) (guard_right fs m ws base at dest qs env ps B W)
  head_right (mk_pair A) = of_two (mk_pair A) (λ vs. refl) (pair_right fs m ws base at dest qs env ps B W A)
  head_right case_pair = of_one case_pair (λ vs. refl) (split_right fs m ws base at dest qs env ps B W)
  head_right (mk_left A) = of_one (mk_left A) (λ vs. refl) (left_right fs m ws base at dest qs env ps B W A)
  head_right (mk_right A) = of_one (mk_right A) (λ vs. refl) (right_right fs m ws base at dest qs env ps B W A)
  head_right case_sum = of_one case_sum (λ vs. refl) (sum_right fs m ws base at dest qs env ps B W)
  head_right (mk_nil A) = nil_right fs m ws base at dest qs env ps B W A
  head_right mk_cons = λ vs s. by3 (Right fs m ws base at dest qs env ps B W mk_cons) vs (ap length (known fs m ws base at dest qs env ps B W mk_cons vs s).1) (cons_right fs m ws base at dest qs env ps B W) s
  head_right case_list = of_one case_list (λ vs. refl) (list_right fs m ws base at dest qs env ps B W)
  head_right (mk_leaf A) = of_one (mk_leaf A) (λ vs. refl) (leaf_right fs m ws base at dest qs env ps B W A)
  head_right mk_node = λ vs s. by5 (Right fs m ws base at dest qs env ps B W mk_node) vs (ap length (known fs m ws base at dest qs env ps B W mk_node vs s).1) (node_right fs m ws base at dest qs env ps B W) s
  head_right case_tree = of_one case_tree (λ vs. refl) (tree_right fs m ws base at dest qs env ps B W)

-- where the types fit, what an expression does is what its head does
pub in_place_law : InPlaceLaw
in_place_law fs m ws base at dest h qs env vs ps B W s =
    let k = head_right fs m ws base at dest qs env ps B W h vs s in
    (k.0, λ r m' ys e. subst (λ (b : Bool). Acts fs m ws base at dest h qs env vs ps W r m' ys (cond b (does h env vs) stuck)) (sym s.fit) (k.1 r m' ys e))
