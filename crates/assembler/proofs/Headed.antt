-- What the typing rule of a head says of its operation.
use Rattle.std.proofs.Common.{◌≡◌, ℕ, zero, suc, ◌+◌, ◌<◌, ◌≤◌, Bool, true, false, cond, not, ◌&&◌, ltb, leb, List, [], ◌∷◌, length, get_or, sym, refl, ap, ◌∙◌, subst, ap₂, le_of_suc-le-suc, not-suc-le-zero, arith}
use Rattle.std.proofs.lemmas.Bool.{and_parts, or_parts, ltb-true, leb-false}
use Rattle.code.specs.Standing.{operation, Apart}
use Rattle.code.specs.declared.Op.TheVariants.{Variable, Call, Pair, Tag, Cons, Fork}
use Rattle.lfpl.proofs.SameTypes.{sames_eq}
use Rattle.lfpl.specs.Judge.{count, parts_naming, shares}
use Rattle.lfpl.specs.Syntax.{Ty, width, first, second, is_heap_free, Head, var, call, const, apply, guard, mk_pair, case_pair, mk_left, mk_right, case_sum, mk_nil, mk_cons, case_list, mk_leaf, mk_node, case_tree, Exprs, names_any, Fun}
use Rattle.lfpl.specs.Typing.{type_at, fun_at, rule, fits, same_tys}
use Rattle.meaning.specs.Machine.{body_number}
use Rattle.tables.specs.Listed.{head_by}
use Rattle.tables.specs.declared.listing.Kind as K
use Rattle.tables.specs.declared.listing.Kind.TheVariants as Kind
use Rattle.assembler.specs.Making.{is_choice_head, type_widths, operation_by}

-- the type that an operation is about: that of a choice's first part, and else the whole's
abbrev pub about_type : Head → List Ty → Ty → Ty
about_type h As W = cond (is_choice_head h) (type_at As 0) W

-- the types that fit are as many as are wanted
pub fit_length : (b : Bool) (As Bs : List Ty) → (b && same_tys As Bs) ≡ true → length As ≡ length Bs
fit_length b As Bs h = ap length (sames_eq As Bs (and_parts b (same_tys As Bs) h).1)

module _ (fs : List Fun) (Γ As : List Ty) where
  one_by : (h : Head) → length (rule fs Γ h As).wants ≡ 1 → fits (rule fs Γ h As) As ≡ true → length As ≡ 1
  one_by h e f = fit_length (rule fs Γ h As).test As (rule fs Γ h As).wants f ∙ e

  -- a choice has one part
  pub one_part : (h : Head) → is_choice_head h ≡ true → fits (rule fs Γ h As) As ≡ true → length As ≡ 1
  one_part (var i) c f = cc
  one_part (call g) c f = cc
  one_part (const z) c f = cc
  one_part (apply o) c f = cc
  one_part guard c f = one_by guard refl f
  one_part (mk_pair A) c f = cc
  one_part case_pair c f = one_by case_pair refl f
  one_part (mk_left A) c f = cc
  one_part (mk_right A) c f = cc
  one_part case_sum c f = one_by case_sum refl f
  one_part (mk_nil A) c f = cc
  one_part mk_cons c f = cc
  one_part case_list c f = one_by case_list refl f
  one_part (mk_leaf A) c f = cc
  one_part mk_node c f = cc
  one_part case_tree c f = one_by case_tree refl f

  -- any other expression has no arms
  pub no_arms : (h : Head) → is_choice_head h ≡ false → (rule fs Γ h As).arms ≡ []
  no_arms (var i) c = refl
  no_arms (call g) c = refl
  no_arms (const z) c = refl
  no_arms (apply o) c = refl
  no_arms guard c = cc
  no_arms (mk_pair A) c = refl
  no_arms case_pair c = cc
  no_arms (mk_left A) c = refl
  no_arms (mk_right A) c = refl
  no_arms case_sum c = cc
  no_arms (mk_nil A) c = refl
  no_arms mk_cons c = refl
  no_arms case_list c = cc
  no_arms (mk_leaf A) c = refl
  no_arms mk_node c = refl
  no_arms case_tree c = cc

  -- at most six parts
  few_by : (h : Head) (n : ℕ) → length (rule fs Γ h As).wants ≡ n → n ≤ 6 → fits (rule fs Γ h As) As ≡ true → length As ≤ 6
  few_by h n e l f = let q = fit_length (rule fs Γ h As).test As (rule fs Γ h As).wants f in omega arith

  module _ (params : (f : ℕ) → f < length fs → length (fun_at fs f).params ≤ 6) where
    pub few_parts : (h : Head) → fits (rule fs Γ h As) As ≡ true → length As ≤ 6
    few_parts (var i) f = few_by (var i) 0 refl (omega arith) f
    few_parts (call g) f = few_by (call g) (length (fun_at fs g).params) refl (params g (ltb-true g (length fs) (and_parts (ltb g (length fs)) (same_tys As (fun_at fs g).params) f).0)) f
    few_parts (const z) f = few_by (const z) 0 refl (omega arith) f
    few_parts (apply o) f = few_by (apply o) 2 refl (omega arith) f
    few_parts guard f = few_by guard 1 refl (omega arith) f
    few_parts (mk_pair A) f = few_by (mk_pair A) 2 refl (omega arith) f
    few_parts case_pair f = few_by case_pair 1 refl (omega arith) f
    few_parts (mk_left A) f = few_by (mk_left A) 1 refl (omega arith) f
    few_parts (mk_right A) f = few_by (mk_right A) 1 refl (omega arith) f
    few_parts case_sum f = few_by case_sum 1 refl (omega arith) f
    few_parts (mk_nil A) f = few_by (mk_nil A) 0 refl (omega arith) f
    few_parts mk_cons f = few_by mk_cons 3 refl (omega arith) f
    few_parts case_list f = few_by case_list 1 refl (omega arith) f
    few_parts (mk_leaf A) f = few_by (mk_leaf A) 1 refl (omega arith) f
    few_parts mk_node f = few_by mk_node 5 refl (omega arith) f
    few_parts case_tree f = few_by case_tree 1 refl (omega arith) f

  -- the operation by the type that it is about is the head's
  pub worked : (ps : List ℕ) (h : Head) (B W : Ty) (place start : ℕ) → (rule fs Γ h As).whole B ≡ W → ((i : ℕ) → h ≡ var i → place ≡ get_or ps i 0)
      → ((f : ℕ) → h ≡ call f → start ≡ body_number fs f)
      → operation_by h place start (type_widths (about_type h As W)) ≡ operation fs Γ ps h As
  worked ps (var i) B W place start w p s = ap₂ Variable (p i refl) (ap width (sym w))
  worked ps (call f) B W place start w p s = ap Call (s f refl)
  worked ps (const z) B W place start w p s = refl
  worked ps (apply o) B W place start w p s = refl
  worked ps guard B W place start w p s = refl
  worked ps (mk_pair A) B W place start w p s = ap (λ (X : Ty). Pair (width X)) (sym w)
  worked ps case_pair B W place start w p s = refl
  worked ps (mk_left A) B W place start w p s = ap (λ (X : Ty). Tag 0 (width (first X))) (sym w)
  worked ps (mk_right A) B W place start w p s = ap (λ (X : Ty). Tag 1 (width (second X))) (sym w)
  worked ps case_sum B W place start w p s = refl
  worked ps (mk_nil A) B W place start w p s = refl
  worked ps mk_cons B W place start w p s = ap (λ (X : Ty). Cons (width (first X))) (sym w)
  worked ps case_list B W place start w p s = refl
  worked ps (mk_leaf A) B W place start w p s = ap (λ (X : Ty). Tag 0 (width (first X))) (sym w)
  worked ps mk_node B W place start w p s = ap (λ (X : Ty). Fork (width (first X))) (sym w)
  worked ps case_tree B W place start w p s = refl

-- the function that is called exists
pub called : (fs : List Fun) (Γ As : List Ty) (h : Head) (f : ℕ) → h ≡ call f → fits (rule fs Γ h As) As ≡ true → f < length fs
called fs Γ As h f e g =
    let k : fits (rule fs Γ (call f) As) As ≡ true = subst (λ (x : Head). fits (rule fs Γ x As) As ≡ true) e g in
    ltb-true f (length fs) (and_parts (ltb f (length fs)) (same_tys As (fun_at fs f).params) k).0

-- the number that is listed at a call is the function's
pub number_is : (k : K.Kind) (ts : List Ty) (v f : ℕ) → head_by k ts v ≡ call f → v ≡ f
number_is Kind.Variable ts v f e = cc
number_is Kind.Call ts v f e = cc
number_is Kind.Constant ts v f e = cc
number_is Kind.Infix ts v f e = cc
number_is Kind.Guard ts v f e = cc
number_is Kind.MakePair ts v f e = cc
number_is Kind.SplitPair ts v f e = cc
number_is Kind.MakeLeft ts v f e = cc
number_is Kind.MakeRight ts v f e = cc
number_is Kind.CaseSum ts v f e = cc
number_is Kind.EmptyList ts v f e = cc
number_is Kind.MakeCons ts v f e = cc
number_is Kind.CaseList ts v f e = cc
number_is Kind.MakeLeaf ts v f e = cc
number_is Kind.MakeNode ts v f e = cc
number_is Kind.CaseTree ts v f e = cc

-- no variable is shared
apart_from : (k : ℕ) (Γ : List Ty) (es qs : Exprs) → shares k Γ es qs ≡ false
    → (i : ℕ) → i < length Γ → is_heap_free (type_at Γ i) ≡ false → (m : ℕ) → m ≡ k + i → parts_naming m es + count (names_any m qs) ≤ 1
apart_from k [] es qs s i l h m e = absurd (not-suc-le-zero l)
apart_from k (A ∷ Γ) es qs s zero l h m e =
    let p = (or_parts (not (is_heap_free A) && leb 2 (parts_naming k es + count (names_any k qs))) (shares (suc k) Γ es qs) s).0 in
    let q = ap (λ (b : Bool). not b && leb 2 (parts_naming k es + count (names_any k qs))) (sym h) ∙ p in
    let r = leb-false 2 (parts_naming k es + count (names_any k qs)) q in
    let z : k ≡ m = omega arith in
    subst (λ (x : ℕ). parts_naming x es + count (names_any x qs) ≤ 1) z (omega arith)
apart_from k (A ∷ Γ) es qs s (suc i) l h m e = apart_from (suc k) Γ es qs (or_parts (not (is_heap_free A) && leb 2 (parts_naming k es + count (names_any k qs))) (shares (suc k) Γ es qs) s).1 i (le_of_suc-le-suc l) h m (omega arith)

pub apart : (Γ : List Ty) (es qs : Exprs) → shares 0 Γ es qs ≡ false → Apart Γ es qs
apart Γ es qs s i l h = apart_from 0 Γ es qs s i l h i (omega arith)
