-- What is read of an expression is what its rule asks.
use Rattle.std.proofs.Common.{◌≡◌, ℕ, ◌<◌, true, List, map, length, get_or, sym, refl, ap, ◌∙◌}
use Rattle.std.proofs.lemmas.List.{get_or-map}
use Rattle.std.proofs.lemmas.Bool.{and_parts, ltb-true}
use Rattle.lfpl.specs.Syntax.{Ty, Head, var, call, const, apply, guard, mk_pair, case_pair, mk_left, mk_right, case_sum, mk_nil, mk_cons, case_list, mk_leaf, mk_node, case_tree, Fun}
use Rattle.lfpl.specs.Typing.{rule, opened, fun_at}
use Rattle.lfpl.specs.Reading.{shape}
use Rattle.lfpl.specs.Laws.{ShapesAreTheRules}
use Rattle.lfpl.proofs.SameTypes.{same_eq, sames_eq}

abbrev arities : List Fun → List ℕ
arities fs = map (λ f. length f.params) fs

arity_at : (fs : List Fun) (f : ℕ) → f < length fs → get_or (arities fs) f 0 ≡ length (fun_at fs f).params
arity_at fs f h = get_or-map (λ f. length f.params) fs f _ 0 h

-- the parts are as many as the rule wants
asked : (fs : List Fun) (Γ : List Ty) (h : Head) (As : List Ty) → (rule fs Γ h As).test ≡ true → (shape (arities fs) h).parts ≡ length (rule fs Γ h As).wants
asked fs Γ (var i) As t = refl
asked fs Γ (call f) As t = arity_at fs f (ltb-true f (length fs) t)
asked fs Γ (const z) As t = refl
asked fs Γ (apply o) As t = refl
asked fs Γ guard As t = refl
asked fs Γ (mk_pair A) As t = refl
asked fs Γ case_pair As t = refl
asked fs Γ (mk_left A) As t = refl
asked fs Γ (mk_right A) As t = refl
asked fs Γ case_sum As t = refl
asked fs Γ (mk_nil A) As t = refl
asked fs Γ mk_cons As t = refl
asked fs Γ case_list As t = refl
asked fs Γ (mk_leaf A) As t = refl
asked fs Γ mk_node As t = refl
asked fs Γ case_tree As t = refl

-- a choice by a value of a type that is of the right kind
opened_at : (A B : Ty) (l : List ℕ) → A ≡ B → map length (opened B) ≡ l → l ≡ map length (opened A)
opened_at A B l e h = sym h ∙ ap (λ (T : Ty). map length (opened T)) (sym e)

-- each arm binds as many variables as the rule says
bound : (fs : List Fun) (Γ : List Ty) (h : Head) (As : List Ty) → (rule fs Γ h As).test ≡ true → (shape (arities fs) h).arms ≡ map length (rule fs Γ h As).arms
bound fs Γ (var i) As t = refl
bound fs Γ (call f) As t = refl
bound fs Γ (const z) As t = refl
bound fs Γ (apply o) As t = refl
bound fs Γ guard As t = refl
bound fs Γ (mk_pair A) As t = refl
bound fs Γ case_pair As t = opened_at _ _ _ (same_eq _ _ t) refl
bound fs Γ (mk_left A) As t = refl
bound fs Γ (mk_right A) As t = refl
bound fs Γ case_sum As t = opened_at _ _ _ (same_eq _ _ t) refl
bound fs Γ (mk_nil A) As t = refl
bound fs Γ mk_cons As t = refl
bound fs Γ case_list As t = opened_at _ _ _ (same_eq _ _ t) refl
bound fs Γ (mk_leaf A) As t = refl
bound fs Γ mk_node As t = refl
bound fs Γ case_tree As t = opened_at _ _ _ (same_eq _ _ t) refl

pub the_shapes_are_the_rules : ShapesAreTheRules
the_shapes_are_the_rules fs Γ h As p =
    let q = and_parts (rule fs Γ h As).test _ p in
    (asked fs Γ h As q.0 ∙ ap length (sym (sames_eq As (rule fs Γ h As).wants q.1)), bound fs Γ h As q.0)
