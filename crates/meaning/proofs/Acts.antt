-- What an expression does under its rule: whatever it gives, binds or hands over has the types that the rule says, and charges no more than its parts (or than the
-- variable that it is).
use Rattle.std.proofs.Common.{◌≡◌, ℕ, zero, suc, ◌+◌, ◌<◌, ◌≤◌, Bool, true, false, cond, eqb, List, [], ◌∷◌, ◌++◌, length, ℤ, pos, negsuc, sym, refl, ◌∙◌, subst, ap₂, le_of_suc-le-suc, not-suc-le-zero, add-zero, add-suc, suc-add, zero-add, arith, w32, SFits}
use mathlib.Core.Bool.{false≢true}
use mathlib.Core.Path.{subst⁻¹}
use lib.Signed.{le_z}
use Rattle.std.proofs.lemmas.Bool.{and_parts, ltb-true, eq-eqb}
use Rattle.std.proofs.lemmas.Int.{SFits-int_wrap}
use Rattle.lfpl.specs.Syntax.{Ty, int, diamond, first, second, same_ty, Infix, plus, minus, times, equal, at_most, Head, var, call, const, apply, guard, mk_pair, case_pair, mk_left, mk_right, case_sum, mk_nil, mk_cons, case_list, mk_leaf, mk_node, case_tree, is_var, Fun}
use Rattle.lfpl.specs.Typing.{type_at, fun_at, opened, Rule, builds, chooses, rule, fits}
use Rattle.lfpl.specs.Values.{Val, num, dia, nil, cons, leaf, node, pair, left, right, charge, In, Typed, ◌of◌}
use Rattle.lfpl.proofs.SameTypes.{same_eq, sames_eq}
use Rattle.meaning.specs.Act.{eq_z, flag, compute, Act, give, choose, enter, stuck, arm, unmake, with1, with2, with3, with5, lookup, does, types, act}
use Rattle.meaning.specs.View.{charges}
use Rattle.meaning.specs.Sound.{Has, Fit}
use Rattle.meaning.proofs.Charges.{weight, weight_at, weight_past}

pub fit_types : (vs : List Typed) (As : List Ty) → Fit vs As → types vs ≡ As
fit_types [] [] h = refl
fit_types [] (A ∷ As) h = absurd h
fit_types (v ∷ vs) [] h = absurd h
fit_types (v ∷ vs) (A ∷ As) h = ap₂ (λ (x : Ty) (l : List Ty). x ∷ l) h.0.0 (fit_types vs As h.1)

pub fit_append : (xs ys : List Typed) (As Bs : List Ty) → Fit xs As → Fit ys Bs → Fit (xs ++ ys) (As ++ Bs)
fit_append [] ys [] Bs h k = k
fit_append [] ys (A ∷ As) Bs h k = absurd h
fit_append (x ∷ xs) ys [] Bs h k = absurd h
fit_append (x ∷ xs) ys (A ∷ As) Bs h k = (h.0, fit_append xs ys As Bs h.1 k)

-- the arm at the place i binds variables of the values' types
abbrev pub Chosen : List (List Ty) → ℕ → List Typed → Type 0
Chosen [] i xs = ⊥
Chosen (b ∷ l) zero xs = Fit xs b
Chosen (b ∷ l) (suc i) xs = Chosen l i xs

-- What an expression may do under a rule R, where the variable that it is charges `own` and its parts `parts`.
abbrev pub Ok : List Fun → Rule → ℕ → ℕ → Act → Type 0
Ok fs R own parts (give v) = ((B : Ty) → Has v (R.whole B)) × (charge v.value ≤ own + parts)
Ok fs R own parts (choose i xs) = Chosen R.arms i xs × ((B : Ty) → R.whole B ≡ B) × (charges xs ≤ parts)
Ok fs R own parts (enter f xs) = (f < length fs) × Fit xs (fun_at fs f).params × ((B : Ty) → R.whole B ≡ (fun_at fs f).result) × (charges xs ≤ parts)
Ok fs R own parts stuck = ⊥

-- ---- values

-- what is computed is a number that 32 bits hold
flag_fits : (b : Bool) → SFits w32 (flag b)
flag_fits true = record { sfits = omega arith }
flag_fits false = record { sfits = omega arith }

compute_fits : (o : Infix) (a b : ℤ) → SFits w32 (compute o a b)
compute_fits plus a b = SFits-int_wrap w32 _
compute_fits minus a b = SFits-int_wrap w32 _
compute_fits times a b = SFits-int_wrap w32 _
compute_fits equal a b = flag_fits (eq_z a b)
compute_fits at_most a b = flag_fits (le_z a b)

-- a type that is equal to another is a diamond if that is
not_diamond : {X : Type 0} (A B : Ty) → A ≡ B → same_ty A diamond ≡ true → same_ty B diamond ≡ false → X
not_diamond A B e h k = absurd (false≢true (sym k ∙ subst (λ (S : Ty). same_ty S diamond ≡ true) e h))

diamond_charge : (A : Ty) (v : Val) → same_ty A diamond ≡ true → In A v → charge v ≡ 1
diamond_charge A (num z) h i = not_diamond A _ i.0 h refl
diamond_charge A dia h e = refl
diamond_charge A nil h e = not_diamond A _ e h refl
diamond_charge A (cons a b) h i = not_diamond A _ i.0 h refl
diamond_charge A (leaf a) h i = not_diamond A _ i.0 h refl
diamond_charge A (node a l r) h i = not_diamond A _ i.0 h refl
diamond_charge A (pair a b) h i = not_diamond A _ i.0 h refl
diamond_charge A (left a) h i = not_diamond A _ i.0 h refl
diamond_charge A (right a) h i = not_diamond A _ i.0 h refl

-- ---- parts of the right count, and what comes of them

fit1 : (P : List Typed → Act → Type 0) (vs : List Typed) (A : Ty) (f : Typed → Act) → Fit vs (A ∷ []) → ((a : Typed) → Has a A → P (a ∷ []) (f a)) → P vs (with1 vs f)
fit1 P [] A f h k = absurd h
fit1 P (a ∷ []) A f h k = k a h.0
fit1 P (a ∷ b ∷ r) A f h k = absurd h.1

fit2 : (P : List Typed → Act → Type 0) (vs : List Typed) (A B : Ty) (f : Typed → Typed → Act) → Fit vs (A ∷ B ∷ [])
    → ((a b : Typed) → Has a A → Has b B → P (a ∷ b ∷ []) (f a b)) → P vs (with2 vs f)
fit2 P [] A B f h k = absurd h
fit2 P (a ∷ r) A B f h k = fit1 (λ l. P (a ∷ l)) r B (f a) h.1 (λ b hb. k a b h.0 hb)

fit3 : (P : List Typed → Act → Type 0) (vs : List Typed) (A B C : Ty) (f : Typed → Typed → Typed → Act) → Fit vs (A ∷ B ∷ C ∷ [])
    → ((a b c : Typed) → Has a A → Has b B → Has c C → P (a ∷ b ∷ c ∷ []) (f a b c)) → P vs (with3 vs f)
fit3 P [] A B C f h k = absurd h
fit3 P (a ∷ r) A B C f h k = fit2 (λ l. P (a ∷ l)) r B C (f a) h.1 (λ b c hb hc. k a b c h.0 hb hc)

fit5 : (P : List Typed → Act → Type 0) (vs : List Typed) (A B C D E : Ty) (f : Typed → Typed → Typed → Typed → Typed → Act) → Fit vs (A ∷ B ∷ C ∷ D ∷ E ∷ [])
    → ((a b c d e : Typed) → Has a A → Has b B → Has c C → Has d D → Has e E → P (a ∷ b ∷ c ∷ d ∷ e ∷ []) (f a b c d e)) → P vs (with5 vs f)
fit5 P [] A B C D E f h k = absurd h
fit5 P (a ∷ []) A B C D E f h k = absurd h.1
fit5 P (a ∷ b ∷ r) A B C D E f h k = fit3 (λ l. P (a ∷ b ∷ l)) r C D E (f a b) h.1.1 (λ c d e hc hd he. k a b c d e h.0 h.1.0 hc hd he)

-- ---- heads

lookup_ok : (fs : List Fun) (t : Bool) (l : List Ty) (parts : ℕ) (named : ℕ → Bool) (env : List Typed) (Γ : List Ty) (i k : ℕ) → Fit env Γ → i < length Γ → named (k + i) ≡ true
    → Ok fs (builds t l (type_at Γ i)) (weight named k env) parts (lookup env i)
lookup_ok fs t l parts named [] [] i k f h n = absurd (not-suc-le-zero h)
lookup_ok fs t l parts named [] (A ∷ Γ) i k f h n = absurd f
lookup_ok fs t l parts named (x ∷ env) [] i k f h n = absurd f
lookup_ok fs t l parts named (x ∷ env) (A ∷ Γ) zero k f h n =
    ((λ B. f.0), let a = weight_at named k x env (subst (λ (j : ℕ). named j ≡ true) (add-zero k) n) in omega arith)
lookup_ok fs t l parts named (x ∷ env) (A ∷ Γ) (suc i) k f h n =
    more (lookup env i) (lookup_ok fs t l parts named env Γ i (suc k) f.1 (le_of_suc-le-suc h) (subst (λ (j : ℕ). named j ≡ true) (add-suc k i ∙ sym (suc-add k i)) n))
  where
    more : (a : Act) → Ok fs (builds t l (type_at Γ i)) (weight named (suc k) env) parts a → Ok fs (builds t l (type_at Γ i)) (weight named k (x ∷ env)) parts a
    more (give v) (o, c) = (o, let b = weight_past named k x env in omega arith)
    more (choose j xs) o = o
    more (enter g xs) o = o
    more stuck o = o

module _ (fs : List Fun) where
  unmake_ok : (t : Bool) (A : Ty) (own : ℕ) (v : Val) → same_ty A diamond ≡ false → In A v → Ok fs (chooses t A) own (charge v) (unmake A v)
  unmake_ok t A own (num z) d i = (subst⁻¹ (λ (S : Ty). Chosen (opened S) (arm z) []) i.0 (guarded z), (λ B. refl), omega arith)
    where
      guarded : (z : ℤ) → Chosen (opened int) (arm z) []
      guarded (pos zero) = tt
      guarded (pos (suc n)) = tt
      guarded (negsuc n) = tt
  unmake_ok t A own dia d e = absurd (false≢true (sym d ∙ subst⁻¹ (λ (S : Ty). same_ty S diamond ≡ true) e refl))
  unmake_ok t A own nil d e = (subst⁻¹ (λ (S : Ty). Chosen (opened S) 0 []) e tt, (λ B. refl), omega arith)
  unmake_ok t A own (cons a b) d (e, i, j) = (
    subst⁻¹ (λ (S : Ty). Chosen (opened S) 1 (dia of diamond ∷ a of first A ∷ b of A ∷ [])) e ((refl, refl), ((refl, i), ((e, subst (λ (S : Ty). In S b) e j), tt))),
    (λ B. refl),
    omega arith,
  )
  unmake_ok t A own (leaf a) d (e, i) = (subst⁻¹ (λ (S : Ty). Chosen (opened S) 0 (a of first A ∷ [])) e ((refl, i), tt), (λ B. refl), omega arith)
  unmake_ok t A own (node a l r) d (e, i, j, k) = (
    subst⁻¹ (λ (S : Ty). Chosen (opened S) 1 (dia of diamond ∷ dia of diamond ∷ a of first A ∷ l of A ∷ r of A ∷ [])) e
        ((refl, refl), ((refl, refl), ((refl, i), ((e, subst (λ (S : Ty). In S l) e j), ((e, subst (λ (S : Ty). In S r) e k), tt))))),
    (λ B. refl),
    omega arith,
  )
  unmake_ok t A own (pair a b) d (e, i, j) =
      (subst⁻¹ (λ (S : Ty). Chosen (opened S) 0 (a of first A ∷ b of second A ∷ [])) e ((refl, i), ((refl, j), tt)), (λ B. refl), omega arith)
  unmake_ok t A own (left a) d (e, i) = (subst⁻¹ (λ (S : Ty). Chosen (opened S) 0 (a of first A ∷ [])) e ((refl, i), tt), (λ B. refl), omega arith)
  unmake_ok t A own (right a) d (e, i) = (subst⁻¹ (λ (S : Ty). Chosen (opened S) 1 (a of second A ∷ [])) e ((refl, i), tt), (λ B. refl), omega arith)

  choice_ok : (t : Bool) (A : Ty) (own : ℕ) (vs : List Typed) → same_ty A diamond ≡ false → Fit vs (A ∷ [])
      → Ok fs (chooses t A) own (charges vs) (with1 vs (λ a. unmake a.type a.value))
  choice_ok t A own vs d w =
      fit1 (λ l r. Ok fs (chooses t A) own (charges l) r) vs A (λ a. unmake a.type a.value) w
      (λ a h. subst⁻¹ (λ (n : ℕ). Ok fs (chooses t A) own n (unmake a.type a.value)) (add-zero (charge a.value))
      (subst⁻¹ (λ (S : Ty). Ok fs (chooses t A) own (charge a.value) (unmake S a.value)) h.0 (unmake_ok t A own a.value d h.1)))

  -- a choice by the kind of type that the test finds
  kind_ok : (A B : Ty) (own : ℕ) (vs : List Typed) → same_ty A B ≡ true → same_ty B diamond ≡ false → Fit vs (A ∷ [])
      → Ok fs (chooses (same_ty A B) A) own (charges vs) (with1 vs (λ a. unmake a.type a.value))
  kind_ok A B own vs t d w = choice_ok (same_ty A B) A own vs (subst⁻¹ (λ (S : Ty). same_ty S diamond ≡ false) (same_eq A B t) d) w

  does_ok : (h : Head) (env vs : List Typed) (Γ As : List Ty) → Fit env Γ → (rule fs Γ h As).test ≡ true → Fit vs (rule fs Γ h As).wants
      → Ok fs (rule fs Γ h As) (weight (λ j. is_var j h) 0 env) (charges vs) (does h env vs)
  does_ok (var i) env vs Γ As f t w =
      lookup_ok fs true [] (charges vs) (λ j. is_var j (var i)) env Γ i 0 f (ltb-true i (length Γ) t) (subst⁻¹ (λ (n : ℕ). eqb n i ≡ true) (zero-add i) (eq-eqb i i refl))
  does_ok (call g) env vs Γ As f t w = (ltb-true g (length fs) t, w, (λ B. refl), omega arith)
  does_ok (const z) env vs Γ As f t w = ((λ B. (refl, (refl, SFits-int_wrap w32 z))), omega arith)
  does_ok (apply o) env vs Γ As f t w =
      fit2 (λ l r. Ok fs (rule fs Γ (apply o) As) (weight (λ j. is_var j (apply o)) 0 env) (charges l) r) vs int int _ w
      (λ a b ha hb. ((λ B. (refl, (refl, compute_fits o _ _))), omega arith))
  does_ok guard env vs Γ As f t w = choice_ok true int _ vs refl w
  does_ok (mk_pair A) env vs Γ As f t w =
      fit2 (λ l r. Ok fs (rule fs Γ (mk_pair A) As) (weight (λ j. is_var j (mk_pair A)) 0 env) (charges l) r) vs (first A) (second A) _ w
      (λ a b ha hb. ((λ B. (refl, (same_eq _ _ t, ha.1, hb.1))), omega arith))
  does_ok case_pair env vs Γ As f t w = kind_ok (type_at As 0) _ _ vs t refl w
  does_ok (mk_left A) env vs Γ As f t w =
      fit1 (λ l r. Ok fs (rule fs Γ (mk_left A) As) (weight (λ j. is_var j (mk_left A)) 0 env) (charges l) r) vs (first A) _ w
      (λ a ha. ((λ B. (refl, (same_eq _ _ t, ha.1))), omega arith))
  does_ok (mk_right A) env vs Γ As f t w =
      fit1 (λ l r. Ok fs (rule fs Γ (mk_right A) As) (weight (λ j. is_var j (mk_right A)) 0 env) (charges l) r) vs (second A) _ w
      (λ a ha. ((λ B. (refl, (same_eq _ _ t, ha.1))), omega arith))
  does_ok case_sum env vs Γ As f t w = kind_ok (type_at As 0) _ _ vs t refl w
  does_ok (mk_nil A) env vs Γ As f t w = ((λ B. (refl, same_eq _ _ t)), omega arith)
  does_ok mk_cons env vs Γ As f t w =
      fit3 (λ l r. Ok fs (rule fs Γ mk_cons As) (weight (λ j. is_var j mk_cons) 0 env) (charges l) r) vs diamond (first (type_at As 2)) (type_at As 2) _ w
      (λ d a b hd ha hb. ((λ B. (hb.0, (same_eq _ _ t, ha.1, hb.1))), let s = diamond_charge diamond d.value refl hd.1 in omega arith))
  does_ok case_list env vs Γ As f t w = kind_ok (type_at As 0) _ _ vs t refl w
  does_ok (mk_leaf A) env vs Γ As f t w =
      fit1 (λ l r. Ok fs (rule fs Γ (mk_leaf A) As) (weight (λ j. is_var j (mk_leaf A)) 0 env) (charges l) r) vs (first A) _ w
      (λ a ha. ((λ B. (refl, (same_eq _ _ t, ha.1))), omega arith))
  does_ok mk_node env vs Γ As f t w =
      fit5 (λ l r. Ok fs (rule fs Γ mk_node As) (weight (λ j. is_var j mk_node) 0 env) (charges l) r) vs diamond diamond (first (type_at As 3)) (type_at As 3) (type_at As 3) _ w
      (λ d e a l r hd he ha hl hr. (
        (λ B. (hl.0, (same_eq _ _ t, ha.1, hl.1, hr.1))),
        let s = diamond_charge diamond d.value refl hd.1 in let s' = diamond_charge diamond e.value refl he.1 in omega arith,
      ))
  does_ok case_tree env vs Γ As f t w = kind_ok (type_at As 0) _ _ vs t refl w

  pub act_ok : (h : Head) (env vs : List Typed) (Γ As : List Ty) → Fit env Γ → Fit vs As → fits (rule fs Γ h As) As ≡ true
      → Ok fs (rule fs Γ h As) (weight (λ j. is_var j h) 0 env) (charges vs) (act fs h env vs)
  act_ok h env vs Γ As f w t =
      let q = and_parts (rule fs Γ h As).test _ t in
      subst⁻¹ (λ (b : Bool). Ok fs (rule fs Γ h As) (weight (λ j. is_var j h) 0 env) (charges vs) (cond b (does h env vs) stuck))
      (subst⁻¹ (λ (G : List Ty). fits (rule fs G h (types vs)) (types vs) ≡ true) (fit_types env Γ f)
      (subst⁻¹ (λ (S : List Ty). fits (rule fs Γ h S) S ≡ true) (fit_types vs As w) t))
      (does_ok h env vs Γ As f q.0 (subst (λ (S : List Ty). Fit vs S) (sames_eq As _ q.1) w))
