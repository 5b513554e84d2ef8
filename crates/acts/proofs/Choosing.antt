-- Heads that take a value apart: the arm's variables lie where the value lay.
use Rattle.std.proofs.Common.{◌≡◌, ℕ, zero, suc, ◌+◌, ◌-◌, ◌^◌, ◌<◌, ◌≤◌, Bool, true, false, cond, eqb, ltb, List, [], ◌∷◌, ◌++◌, length, get_or, ℤ, pos, negsuc, sym, refl, ap, ◌∙◌, subst, inl, inr, arith, w32, to_z}
use mir.Val.{sel}
use Rattle.std.proofs.lemmas.Bool.{cond-false, ne_eqb, leb-true}
use Rattle.lfpl.specs.Reading.{roomy}
use Rattle.lfpl.specs.Syntax.{Ty, int, diamond, list_of, tree_of, pair_of, sum_of, width, first, second, Head, guard, case_pair, case_sum, case_list, case_tree, Exprs, Fun}
use Rattle.lfpl.specs.Typing.{type_at, opened, rule}
use Rattle.lfpl.specs.Values.{Val, dia, cons, node, Typed, ◌of◌}
use Rattle.lfpl.proofs.SameTypes.{same_eq}
use Rattle.meaning.specs.Act.{arm, unmake, types}
use Rattle.meaning.specs.Mean.{widths}
use Rattle.pool.specs.Pools.{Meaning}
use Rattle.store.specs.Layout.{one, used, words_of, Shows, footprint, occ}
use Rattle.store.proofs.Moves.{moved, occ_append}
use Rattle.store.proofs.Shown.{shown_int, shown_pair, shown_sum, shown_list, shown_tree, zero_free}
use Rattle.code.specs.declared.Next.{Next}
use Rattle.code.specs.declared.Next.TheVariants.{First, Second}
use Rattle.acts.specs.Effects.{Copied, Opened, Spread}
use Rattle.acts.specs.Places.{Lies, cells_of, all, places, cells_at, Above}
use Rattle.acts.specs.Settling.{Chose, Acts, arm_of}
use Rattle.acts.proofs.Lying.{window_of, window_part}
use Rattle.acts.proofs.Settled.{part, Right, known, roomed}

-- ---- which arm a word chooses

arm_word : (w : ℕ) → arm_of (arm (to_z w32 w)) ≡ cond (eqb w 0) Second First
arm_word zero = refl
arm_word (suc n) = go (ltb (suc n) (2 ^ 31)) ∙ sym (cond-false (eqb (suc n) 0) Second First (ne_eqb (suc n) 0 (λ e. absurd (omega arith))))
  where
    go : (b : Bool) → arm_of (arm (sel b (pos (suc n)) (negsuc (2 ^ 32 - suc (suc n))))) ≡ First
    go true = refl
    go false = refl

arm_low : (z : ℤ) → arm z ≤ 1
arm_low (pos zero) = omega arith
arm_low (pos (suc n)) = omega arith
arm_low (negsuc n) = omega arith

arm_binds : (z : ℤ) → [] ≡ get_or (opened int) (arm z) []
arm_binds (pos zero) = refl
arm_binds (pos (suc n)) = refl
arm_binds (negsuc n) = refl

pub used_pos : (m : Meaning) (w : ℕ) → used m w ≡ 1 → 0 < w
used_pos m zero e = absurd (zero_free m 0 refl e)
used_pos m (suc w) e = omega arith

same_above : (ws ys : List ℕ) (at : ℕ) → ys ≡ ws → Above ws ys at
same_above ws ys at e = record { below = λ i h. ap (λ l. get_or l i 0) e; long = ap length e }

module _ (fs : List Fun) (m : Meaning) (ws : List ℕ) (base at dest : ℕ) (qs : Exprs) (env : List Typed) (ps : List ℕ) (B W : Ty) where
  -- an arm is chosen by the part a, of which the value is u
  chose : (h : Head) (a : Typed) (r : Next) (m' : Meaning) (ys : List ℕ) (i : ℕ) (xs : List Typed) (bs : List (List Ty)) → (rule fs (types env) h (types (a ∷ []))).arms ≡ bs
      → r ≡ arm_of i → m' ≡ m → Above ws ys at → Lies m ys (at + widths xs) all xs (places at xs) → ((c : ℕ) → occ c (cells_of m ys all xs (places at xs)) ≤ occ c (cells_at m ws a at))
      → i < length bs → types xs ≡ get_or bs i [] → i ≤ 1 → Chose fs m ws base at dest h qs env (a ∷ []) ps W r m' ys i xs
  chose h a r m' ys i xs bs e n p q l k j t o = record {
    next = n;
    pool = p;
    above = q;
    lie = l;
    cells = λ c. omega (arith, k c, occ_append c (cells_at m ws a at) []);
    arm = subst (λ l. i < length l) (sym e) j;
    binds = subst (λ l. types xs ≡ get_or l i []) (sym e) t;
    two = o;
  }

  pub guard_right : (a : Typed) → Right fs m ws base at dest qs env ps B W guard (a ∷ [])
  guard_right a s = (
    roomed fs m ws base at dest qs env ps B W guard (a ∷ []) s tt,
    λ r m' ys e.
        let t = known fs m ws base at dest qs env ps B W guard (a ∷ []) s in
        let p = part m ws a int _ at at (ap (λ l. type_at l 0) t.1) refl (s.values.0 refl) in
        let z = shown_int m ws at a.value p.0 in
        let x = to_z w32 (get_or ws at 0) in
        subst (λ (v : Val). Acts fs m ws base at dest guard qs env (a ∷ []) ps W r m' ys (unmake a.type v)) (sym z)
        (chose guard a r m' ys (arm x) [] (opened int) refl (e.0 ∙ sym (arm_word (get_or ws at 0))) e.1 (same_above ws ys at e.2) tt (λ c. omega arith)
        (omega (arith, arm_low x)) (arm_binds x) (arm_low x)),
  )

  pub split_right : (a : Typed) → Right fs m ws base at dest qs env ps B W case_pair (a ∷ [])
  unfolding Shows footprint
  split_right a s = (
    roomed fs m ws base at dest qs env ps B W case_pair (a ∷ []) s tt,
    λ r m' ys e.
        let T = a.type in
        let t = known fs m ws base at dest qs env ps B W case_pair (a ∷ []) s in
        let x = same_eq T (pair_of (first T) (second T)) t.0 in
        let w = ap width x in
        let v = shown_pair m ws at (first T) (second T) a.value (subst (λ T. Shows m T a.value ws at) x (s.values.0 refl).shows) in
        let xs = v.0 of first T ∷ v.1 of second T ∷ [] in
        let f₁ = footprint m (first T) v.0 ws at in
        let f₂ = footprint m (second T) v.1 ws (at + width (first T)) in
        let f : cells_at m ws a at ≡ f₁ ++ f₂ = ap (λ u. footprint m T u ws at) v.2 in
        subst (λ (u : Val). Acts fs m ws base at dest case_pair qs env (a ∷ []) ps W r m' ys (unmake T u)) (sym v.2)
        (subst (λ l. Chose fs m ws base at dest case_pair qs env (a ∷ []) ps W r m' l 0 xs) (sym e.2)
        (chose case_pair a r m' ws 0 xs ((first T ∷ second T ∷ []) ∷ []) (ap opened x) e.0 e.1 (same_above ws ws at refl)
        (λ q. record { shows = v.3; below = omega arith }, (λ q. record { shows = v.4; below = omega arith }, tt))
        (λ c. omega (arith, ap (λ l. occ c l) f, occ_append c f₁ f₂, occ_append c f₁ (f₂ ++ []), occ_append c f₂ [])) (omega arith) refl (omega arith))),
  )

  -- a marked part is left at the mark's place
  unmarked : (h : Head) (a : Typed) (r : Next) (m' : Meaning) (ys : List ℕ) (i : ℕ) (T : Ty) (v : Val) (bs : List (List Ty)) → (rule fs (types env) h (types (a ∷ []))).arms ≡ bs
      → r ≡ arm_of i → m' ≡ m → Copied ws ys (at + 1) at (width T) → Shows m T v ws (at + 1) → cells_at m ws a at ≡ footprint m T v ws (at + 1)
      → i < length bs → ◌≡◌ {A = List Ty} (T ∷ []) (get_or bs i []) → i ≤ 1 → Chose fs m ws base at dest h qs env (a ∷ []) ps W r m' ys i (v of T ∷ [])
  unmarked h a r m' ys i T v bs e n p d s f j t o =
      let k = moved m m T v ws ys (at + 1) at s (window_of ws ys (at + 1) at (width T) d.there) (λ c h. refl) in
      chose h a r m' ys i (v of T ∷ []) bs e n p d.above (λ q. record { shows = k.0; below = omega arith }, tt)
      (λ c. omega (arith, ap (λ l. occ c l) f, ap (λ l. occ c l) k.1, occ_append c (footprint m T v ys at) [])) j t o

  pub sum_right : (a : Typed) → Right fs m ws base at dest qs env ps B W case_sum (a ∷ [])
  unfolding Shows footprint
  sum_right a s =
      let T = a.type in
      let t = known fs m ws base at dest qs env ps B W case_sum (a ∷ []) s in
      let x = same_eq T (sum_of (first T) (second T)) t.0 in
      let w = ap width x in
      let bs = (first T ∷ []) ∷ (second T ∷ []) ∷ [] in (
        roomed fs m ws base at dest qs env ps B W case_sum (a ∷ []) s (omega (arith, s.parts.0.low), omega (arith, s.parts.0.low)),
        λ r m' ys e.
            elim (shown_sum m ws at (first T) (second T) a.value (subst (λ T. Shows m T a.value ws at) x (s.values.0 refl).shows)) [
              | inl h ↦
                  let k = e.1.0 h.0 in
                  subst (λ (u : Val). Acts fs m ws base at dest case_sum qs env (a ∷ []) ps W r m' ys (unmake T u)) (sym h.1.1)
                  (unmarked case_sum a r m' ys 0 (first T) h.1.0 bs (ap opened x) k.0 e.0 k.1 h.1.2 (ap (λ u. footprint m T u ws at) h.1.1) (omega arith) refl (omega arith))
              | inr h ↦
                  let k = e.1.1 (omega (arith, h.0)) in
                  subst (λ (u : Val). Acts fs m ws base at dest case_sum qs env (a ∷ []) ps W r m' ys (unmake T u)) (sym h.1.1)
                  (unmarked case_sum a r m' ys 1 (second T) h.1.0 bs (ap opened x) k.0 e.0 k.1 h.1.2 (ap (λ u. footprint m T u ws at) h.1.1) (omega arith) refl (omega arith))
            ],
      )

  -- a list's cell is opened: the cell itself, the element and the tail follow one another
  opened_cell : (a : Typed) (T : Ty) (v₁ v₂ : Val) (r : Next) (m' : Meaning) (ys : List ℕ) → T ≡ list_of (first T) → (rule fs (types env) case_list (types (a ∷ []))).arms ≡ opened T
      → r ≡ Second → m' ≡ m → Opened m ws ys at (width (first T) + 1) → used m (get_or ws at 0) ≡ 1 → Shows m (first T) v₁ (words_of m (get_or ws at 0)) 0
      → Shows m T v₂ (words_of m (get_or ws at 0)) (width (first T)) → cells_at m ws a at ≡ footprint m T (cons v₁ v₂) ws at
      → Chose fs m ws base at dest case_list qs env (a ∷ []) ps W r m' ys 1 (dia of diamond ∷ v₁ of first T ∷ v₂ of T ∷ [])
  unfolding Shows footprint
  opened_cell a T v₁ v₂ r m' ys x y n p d u s₁ s₂ f =
      let k = width (first T) in
      let w = ap width x in
      let cs = words_of m (get_or ws at 0) in
      let g : get_or ys at 0 ≡ get_or ws at 0 = d.above.below at (omega arith) in
      let l₁ = moved m m (first T) v₁ cs ys 0 (at + 1) s₁ (window_part cs ys 0 (at + 1) (k + 1) 0 (at + 1) k d.there (omega arith) (omega arith) (omega arith)) (λ c h. refl) in
      let l₂ = moved m m T v₂ cs ys k (at + 1 + k) s₂ (window_part cs ys 0 (at + 1) (k + 1) k (at + 1 + k) (width T) d.there (omega arith) (omega arith) (omega arith)) (λ c h. refl) in
      let f₁ = footprint m (first T) v₁ cs 0 in
      let f₂ = footprint m T v₂ cs k in
      let g₁ = footprint m (first T) v₁ ys (at + 1) in
      let g₂ = footprint m T v₂ ys (at + 1 + k) in
      chose case_list a r m' ys 1 (dia of diamond ∷ v₁ of first T ∷ v₂ of T ∷ []) ([] ∷ (diamond ∷ first T ∷ list_of (first T) ∷ []) ∷ []) (y ∙ ap opened x) n p
      (record { below = λ i h. d.above.below i (omega arith); long = d.above.long })
      (λ q. record { shows = (refl, ap (used m) g ∙ u); below = omega arith }, (λ q. record { shows = l₁.0; below = omega arith }, (λ q. record { shows = l₂.0; below = omega arith }, tt)))
      (λ c. omega (
        arith,
        ap (λ l. occ c l) f,
        ap (λ z. one (eqb z c)) g,
        ap (λ l. occ c l) l₁.1,
        ap (λ l. occ c l) l₂.1,
        occ_append c f₁ f₂,
        occ_append c g₁ (g₂ ++ []),
        occ_append c g₂ [],
      )) (omega arith) (ap (λ X. diamond ∷ first T ∷ X ∷ []) x) (omega arith)

  pub list_right : (a : Typed) → Right fs m ws base at dest qs env ps B W case_list (a ∷ [])
  unfolding Shows footprint
  list_right a s =
      let T = a.type in
      let t = known fs m ws base at dest qs env ps B W case_list (a ∷ []) s in
      let x = same_eq T (list_of (first T)) t.0 in
      let v = shown_list m ws at (first T) a.value (subst (λ T. Shows m T a.value ws at) x (s.values.0 refl).shows) in (
        roomed fs m ws base at dest qs env ps B W case_list (a ∷ []) s (
          leb-true (width (first T)) 15 (sym (ap roomy x) ∙ s.parts.0.element),
          λ p. elim v [
            | inl h ↦ absurd (omega (arith, h.0))
            | inr h ↦ h.3
          ],
        ),
        λ r m' ys e. elim v [
          | inl h ↦
              let k = e.1.0 h.0 in
              subst (λ (u : Val). Acts fs m ws base at dest case_list qs env (a ∷ []) ps W r m' ys (unmake T u)) (sym h.1)
              (chose case_list a r m' ys 0 [] ([] ∷ (diamond ∷ first T ∷ list_of (first T) ∷ []) ∷ []) (ap opened x) k.0 e.0 (same_above ws ys at k.1) tt (λ c. omega arith)
              (omega arith) refl (omega arith))
          | inr h ↦
              let k = e.1.1 (used_pos m (get_or ws at 0) h.3) in
              subst (λ (u : Val). Acts fs m ws base at dest case_list qs env (a ∷ []) ps W r m' ys (unmake T u)) (sym h.2)
              (opened_cell a T h.0 h.1 r m' ys x refl k.0 e.0 k.1 h.3 h.4
              (subst (λ X. Shows m X h.1 (words_of m (get_or ws at 0)) (width (first T))) (sym x) h.5) (ap (λ u. footprint m T u ws at) h.2))
        ],
      )

  -- a node is spread out: its two cells, its label and its subtrees follow one another
  spread_node : (a : Typed) (T : Ty) (v₁ v₂ v₃ : Val) (r : Next) (m' : Meaning) (ys : List ℕ) → T ≡ tree_of (first T) → (rule fs (types env) case_tree (types (a ∷ []))).arms ≡ opened T
      → r ≡ Second → m' ≡ m → Spread m ws ys at (width (first T)) → Shows m T (node v₁ v₂ v₃) ws at → cells_at m ws a at ≡ footprint m T (node v₁ v₂ v₃) ws at
      → Chose fs m ws base at dest case_tree qs env (a ∷ []) ps W r m' ys 1 (dia of diamond ∷ dia of diamond ∷ v₁ of first T ∷ v₂ of T ∷ v₃ of T ∷ [])
  unfolding Shows footprint
  spread_node a T v₁ v₂ v₃ r m' ys x y n p d s f =
      let k = width (first T) in
      let w = ap width x in
      let cl = get_or ws (at + 1 + k) 0 in
      let cr = get_or ws (at + 2 + k) 0 in
      let l₁ = moved m m (first T) v₁ ws ys (at + 1) (at + 1 + 1) s.2
      (window_part ws ys (at + 1) (at + 2) k (at + 1) (at + 1 + 1) k d.label (omega arith) (omega arith) (omega arith)) (λ c h. refl) in
      let l₂ = moved m m T v₂ (words_of m cl) ys 0 (at + 1 + 1 + k) s.4
      (window_part (words_of m cl) ys 0 (at + 2 + k) (k + 3) 0 (at + 1 + 1 + k) (width T) d.left (omega arith) (omega arith) (omega arith)) (λ c h. refl) in
      let l₃ = moved m m T v₃ (words_of m cr) ys 0 (at + 1 + 1 + k + width T) s.6
      (window_part (words_of m cr) ys 0 (at + 2 + k + (k + 3)) (k + 3) 0 (at + 1 + 1 + k + width T) (width T) d.right (omega arith) (omega arith) (omega arith)) (λ c h. refl) in
      let f₁ = footprint m (first T) v₁ ws (at + 1) in
      let f₂ = footprint m T v₂ (words_of m cl) 0 in
      let f₃ = footprint m T v₃ (words_of m cr) 0 in
      let g₁ = footprint m (first T) v₁ ys (at + 1 + 1) in
      let g₂ = footprint m T v₂ ys (at + 1 + 1 + k) in
      let g₃ = footprint m T v₃ ys (at + 1 + 1 + k + width T) in
      chose case_tree a r m' ys 1 (dia of diamond ∷ dia of diamond ∷ v₁ of first T ∷ v₂ of T ∷ v₃ of T ∷ [])
      ((first T ∷ []) ∷ (diamond ∷ diamond ∷ first T ∷ tree_of (first T) ∷ tree_of (first T) ∷ []) ∷ []) (y ∙ ap opened x) n p d.above (
        λ q. record { shows = (refl, ap (used m) d.left_is ∙ s.3); below = omega arith },
        (
          λ q. record { shows = (refl, ap (used m) d.right_is ∙ s.5); below = omega arith },
          (
            λ q. record { shows = l₁.0; below = omega arith },
            (λ q. record { shows = l₂.0; below = omega arith }, (λ q. record { shows = l₃.0; below = omega arith }, tt)),
          ),
        ),
      )
      (λ c. omega (
        arith,
        ap (λ l. occ c l) f,
        ap (λ z. one (eqb z c)) d.left_is,
        ap (λ z. one (eqb z c)) d.right_is,
        ap (λ l. occ c l) l₁.1,
        ap (λ l. occ c l) l₂.1,
        ap (λ l. occ c l) l₃.1,
        occ_append c f₁ ((cl ∷ f₂) ++ (cr ∷ f₃)),
        occ_append c (cl ∷ f₂) (cr ∷ f₃),
        occ_append c g₁ (g₂ ++ (g₃ ++ [])),
        occ_append c g₂ (g₃ ++ []),
        occ_append c g₃ [],
      )) (omega arith) (ap (λ X. diamond ∷ diamond ∷ first T ∷ X ∷ X ∷ []) x) (omega arith)

  pub tree_right : (a : Typed) → Right fs m ws base at dest qs env ps B W case_tree (a ∷ [])
  unfolding Shows footprint
  tree_right a s =
      let T = a.type in
      let t = known fs m ws base at dest qs env ps B W case_tree (a ∷ []) s in
      let x = same_eq T (tree_of (first T)) t.0 in
      let v = shown_tree m ws at (first T) a.value (subst (λ T. Shows m T a.value ws at) x (s.values.0 refl).shows) in (
        roomed fs m ws base at dest qs env ps B W case_tree (a ∷ []) s (
          omega (arith, s.parts.0.low, ap width x),
          λ p. elim v [
            | inl h ↦ absurd (omega (arith, h.0))
            | inr h ↦ (h.1.5, h.1.7)
          ],
        ),
        λ r m' ys e. elim v [
          | inl h ↦
              let k = e.1.0 h.0 in
              subst (λ (u : Val). Acts fs m ws base at dest case_tree qs env (a ∷ []) ps W r m' ys (unmake T u)) (sym h.1.1)
              (unmarked case_tree a r m' ys 0 (first T) h.1.0 ((first T ∷ []) ∷ (diamond ∷ diamond ∷ first T ∷ tree_of (first T) ∷ tree_of (first T) ∷ []) ∷ []) (ap opened x) k.0 e.0 k.1
              h.1.2 (ap (λ u. footprint m T u ws at) h.1.1) (omega arith) refl (omega arith))
          | inr h ↦
              let k = e.1.1 (omega (arith, h.0)) in
              let g = h.1 in
              subst (λ (u : Val). Acts fs m ws base at dest case_tree qs env (a ∷ []) ps W r m' ys (unmake T u)) (sym g.3)
              (spread_node a T g.0 g.1 g.2 r m' ys x refl k.0 e.0 k.1 (subst (λ u. Shows m T u ws at) g.3 (s.values.0 refl).shows) (ap (λ u. footprint m T u ws at) g.3))
        ],
      )
