-- A test that passes the types that a rule is over passes those that it speaks of.
use Rattle.std.proofs.Common.{◌≡◌, ℕ, zero, suc, Bool, true, List, [], ◌∷◌, ◌++◌, map, subst}
use mathlib.Core.Path.{subst⁻¹}
use Rattle.std.specs.List.{AllByRecursion}
use Rattle.std.proofs.ByRecursion.{All-append}
use Rattle.lfpl.specs.Syntax.{Ty, int, diamond, list_of, tree_of, pair_of, sum_of, Head, var, call, const, apply, guard, mk_pair, case_pair, mk_left, mk_right, case_sum, mk_nil, mk_cons, case_list, mk_leaf, mk_node, case_tree, Fun}
use Rattle.lfpl.specs.Typing.{type_at, fun_at, opened, rule}
use Rattle.lfpl.specs.Values.{Typed}
use Rattle.meaning.specs.Sound.{Fit}
use Rattle.meaning.specs.States.{noted, types_in, heads, flat, Stands, Passes, Closed, Pass}

-- the parts of a list, of whose elements the property holds
module _ {X : Type 0} (P : X → Type 0) where
  all_left : (xs ys : List X) → AllByRecursion P (xs ++ ys) → AllByRecursion P xs
  all_left [] ys h = tt
  all_left (x ∷ xs) ys h = (h.0, all_left xs ys h.1)

  all_right : (xs ys : List X) → AllByRecursion P (xs ++ ys) → AllByRecursion P ys
  all_right [] ys h = h
  all_right (x ∷ xs) ys h = all_right xs ys h.1

module _ (G : Ty → Bool) where
  -- values of types that pass
  pub fit_pass : (xs : List Typed) (As : List Ty) → Fit xs As → Passes G As → Pass G xs
  fit_pass [] [] f h = tt
  fit_pass [] (A ∷ As) f h = tt
  fit_pass (x ∷ xs) [] f h = absurd f
  fit_pass (x ∷ xs) (A ∷ As) f h = (subst⁻¹ (λ (S : Ty). G S ≡ true) f.0.0 h.0, fit_pass xs As f.1 h.1)

  -- the heads of the flat table write types that pass
  noted_flat : (gs : List Fun) → AllByRecursion (λ g. Passes G (types_in g)) gs → AllByRecursion (λ h. G (noted h) ≡ true) (flat gs)
  noted_flat [] h = tt
  noted_flat (g ∷ gs) h = All-append _ (heads g.body) (flat gs) (each (heads g.body) (all_right _ g.params _ h.0).1) (noted_flat gs h.1)
    where
      each : (hs : List Head) → Passes G (map noted hs) → AllByRecursion (λ h. G (noted h) ≡ true) hs
      each [] p = tt
      each (x ∷ hs) p = (p.0, each hs p.1)

  -- so does one that stands in it
  pub noted_at : (fs : List Fun) (n : ℕ) (h : Head) → AllByRecursion (λ g. Passes G (types_in g)) fs → Stands (flat fs) n (h ∷ []) → G (noted h) ≡ true
  noted_at fs n h named (b, a, e, l) = (all_right _ b _ (subst (λ (x : List Head). AllByRecursion (λ h. G (noted h) ≡ true) x) e (noted_flat fs named))).0

module _ (G : Ty → Bool) (closed : Closed G) where
  pub passes_at : (As : List Ty) (i : ℕ) → Passes G As → G (type_at As i) ≡ true
  passes_at [] i h = closed.0
  passes_at (A ∷ As) zero h = h.0
  passes_at (A ∷ As) (suc i) h = passes_at As i h.1

  opened_passes : (A : Ty) → G A ≡ true → AllByRecursion (λ b. Passes G b) (opened A)
  opened_passes int h = (tt, (tt, tt))
  opened_passes diamond h = tt
  opened_passes (list_of A) h = (tt, ((closed.1, ((closed.2 (list_of A) h).0, (h, tt))), tt))
  opened_passes (tree_of A) h = let a = (closed.2 (tree_of A) h).0 in ((a, tt), ((closed.1, (closed.1, (a, (h, (h, tt))))), tt))
  opened_passes (pair_of A B) h = let a = closed.2 (pair_of A B) h in ((a.0, (a.1, tt)), tt)
  opened_passes (sum_of A B) h = let a = closed.2 (sum_of A B) h in ((a.0, tt), ((a.1, tt), tt))

  module _ (fs : List Fun) (named : AllByRecursion (λ g. Passes G (types_in g)) fs) where
    pub params_pass : (gs : List Fun) (f : ℕ) → AllByRecursion (λ g. Passes G (types_in g)) gs → Passes G (fun_at gs f).params
    params_pass [] f h = tt
    params_pass (g ∷ gs) zero h = all_left _ g.params _ h.0
    params_pass (g ∷ gs) (suc f) h = params_pass gs f h.1

    result_passes : (gs : List Fun) (f : ℕ) → AllByRecursion (λ g. Passes G (types_in g)) gs → G (fun_at gs f).result ≡ true
    result_passes [] f h = closed.0
    result_passes (g ∷ gs) zero h = (all_right _ g.params _ h.0).0
    result_passes (g ∷ gs) (suc f) h = result_passes gs f h.1

    -- what the arms bind, and the whole
    pub rule_passes : (h : Head) (Γ As : List Ty) → G (noted h) ≡ true → Passes G Γ → Passes G As
        → AllByRecursion (λ b. Passes G b) (rule fs Γ h As).arms × (G ((rule fs Γ h As).whole int) ≡ true)
    rule_passes (var i) Γ As n g a = (tt, passes_at Γ i g)
    rule_passes (call f) Γ As n g a = (tt, result_passes fs f named)
    rule_passes (const z) Γ As n g a = (tt, n)
    rule_passes (apply o) Γ As n g a = (tt, n)
    rule_passes guard Γ As n g a = (opened_passes int n, n)
    rule_passes (mk_pair A) Γ As n g a = (tt, n)
    rule_passes case_pair Γ As n g a = (opened_passes (type_at As 0) (passes_at As 0 a), n)
    rule_passes (mk_left A) Γ As n g a = (tt, n)
    rule_passes (mk_right A) Γ As n g a = (tt, n)
    rule_passes case_sum Γ As n g a = (opened_passes (type_at As 0) (passes_at As 0 a), n)
    rule_passes (mk_nil A) Γ As n g a = (tt, n)
    rule_passes mk_cons Γ As n g a = (tt, passes_at As 2 a)
    rule_passes case_list Γ As n g a = (opened_passes (type_at As 0) (passes_at As 0 a), n)
    rule_passes (mk_leaf A) Γ As n g a = (tt, n)
    rule_passes mk_node Γ As n g a = (tt, passes_at As 3 a)
    rule_passes case_tree Γ As n g a = (opened_passes (type_at As 0) (passes_at As 0 a), n)
