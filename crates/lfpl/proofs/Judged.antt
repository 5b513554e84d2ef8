-- The judgement finds a type exactly where the typing relation has one. One way, a predicate that holds of every fault is carried through the steps of the
-- judgement; the other way, each step is shown to pass.
use Rattle.std.proofs.Common.{◌≡◌, ℕ, zero, suc, ◌+◌, Bool, true, false, not, ◌&&◌, ◌||◌, List, [], ◌∷◌, ◌++◌, refl, ap, ◌∙◌, subst, le_of_suc-le-suc, not-suc-le-zero, arith}
use mathlib.Core.Path.{subst⁻¹}
use Rattle.std.proofs.lemmas.Bool.{and_parts, and_from, or_right, not-true}
use Rattle.codec.specs.declared.fault.Refusal.{Refusal}
use Rattle.codec.specs.declared.fault.Refusal.TheVariants.{TypeFault, Sharing}
use Rattle.lfpl.specs.Syntax.{Ty, int, same_ty, Head, var, call, const, apply, guard, mk_pair, case_pair, mk_left, mk_right, case_sum, mk_nil, mk_cons, case_list, mk_leaf, mk_node, case_tree, Expr, Exprs, expr, end, ◌then◌, size, sizes, Fun}
use Rattle.lfpl.specs.Typing.{rule, fits, opened, early, alike, type_at}
use Rattle.lfpl.specs.Judge.{◌>>=◌, Verdict, fine, faulty, demand, judge, exprs_verdict, arms_verdict, bodies_verdict, program_verdict, shares}
use Rattle.lfpl.proofs.SameTypes.{same_eq, same_refl}
use Rattle.lfpl.proofs.Typed.{Typ, TypAll, TypArms, Bodies, JudgeLaw, ProgramLaw}

-- what is found, if anything is, has the property
abbrev Found : {X : Type 0} → (X → Type 0) → Verdict X → Type 0
Found P (fine x) = P x
Found P (faulty w i) = Unit {0}

found_bind : {X Y : Type 0} (P : X → Type 0) (Q : Y → Type 0) (m : Verdict X) (f : X → Verdict Y) → Found P m → ((x : X) → P x → Found Q (f x)) → Found Q (m >>= f)
found_bind P Q (fine x) f h k = k x h
found_bind P Q (faulty w i) f h k = tt

found_demand : {X : Type 0} (P : X → Type 0) (b : Bool) (w : Refusal) (i : ℕ) (x : X) → (b ≡ true → P x) → Found P (demand b w i x)
found_demand P true w i x h = h refl
found_demand P false w i x h = tt

found_fine : {X : Type 0} (P : X → Type 0) (m : Verdict X) (x : X) → Found P m → m ≡ fine x → P x
found_fine P m x h e = rw e at h

then_fine : {X Y : Type 0} (m : Verdict X) (x : X) (f : X → Verdict Y) (r : Verdict Y) → m ≡ fine x → f x ≡ r → (m >>= f) ≡ r
then_fine m x f r h k = ap (λ v. v >>= f) h ∙ k

demand_fine : {X : Type 0} (b : Bool) (w : Refusal) (i : ℕ) (x : X) → b ≡ true → demand b w i x ≡ fine x
demand_fine b w i x h = ap (λ c. demand c w i x) h

-- the type B once for each arm
abbrev copies : Exprs → Ty → List Ty
copies end B = []
copies (q then qs) B = B ∷ copies qs B

alike_copies : (qs : Exprs) (B : Ty) → alike B (copies qs B) ≡ true
alike_copies end B = refl
alike_copies (q then qs) B = and_from (same_ty B B) _ (same_refl B) (alike_copies qs B)

module _ (fs : List Fun) where
  -- what is judged has its type
  mutual
    judged : (e : Expr) (n : ℕ) (Γ : List Ty) → Found (λ A. Typ fs e Γ A) (judge fs e n Γ)
    judged (expr h ps qs) n Γ =
        found_bind (λ As. TypAll fs ps Γ As) (λ A. Typ fs (expr h ps qs) Γ A) (exprs_verdict fs ps (suc n) Γ) _ (judged_all ps (suc n) Γ) λ As tAs.
        found_bind (λ u. Unit {0}) (λ A. Typ fs (expr h ps qs) Γ A) (demand _ TypeFault n tt) _ (found_demand (λ u. Unit {0}) _ TypeFault n tt (λ e. tt)) λ u₁ e₁.
        found_bind (λ Bs. (B : Ty) → alike B Bs ≡ true → TypArms fs qs (rule fs Γ h As).arms Γ B) (λ A. Typ fs (expr h ps qs) Γ A)
        (arms_verdict fs qs (rule fs Γ h As).arms n (suc n + sizes ps) Γ) _ (judged_arms qs (rule fs Γ h As).arms n (suc n + sizes ps) Γ) λ Bs tBs.
        found_bind (λ u. (fits (rule fs Γ h As) As && alike (type_at Bs 0) Bs) ≡ true) (λ A. Typ fs (expr h ps qs) Γ A)
        (demand (fits (rule fs Γ h As) As && alike (type_at Bs 0) Bs) TypeFault n tt) _
        (found_demand _ (fits (rule fs Γ h As) As && alike (type_at Bs 0) Bs) TypeFault n tt (λ e. e)) λ u₂ e₂.
        let q = and_parts (fits (rule fs Γ h As) As) (alike (type_at Bs 0) Bs) e₂ in
        found_demand (λ A. Typ fs (expr h ps qs) Γ A) (not (shares 0 Γ ps qs)) Sharing n ((rule fs Γ h As).whole (type_at Bs 0))
        (λ e. (As, type_at Bs 0, tAs, q.0, tBs (type_at Bs 0) q.1, refl, not-true _ e))

    judged_all : (es : Exprs) (n : ℕ) (Γ : List Ty) → Found (λ As. TypAll fs es Γ As) (exprs_verdict fs es n Γ)
    judged_all end n Γ = tt
    judged_all (e then es) n Γ =
        found_bind (λ A. Typ fs e Γ A) (λ As. TypAll fs (e then es) Γ As) (judge fs e n Γ) _ (judged e n Γ) λ A tA.
        found_bind (λ As. TypAll fs es Γ As) (λ As. TypAll fs (e then es) Γ As) (exprs_verdict fs es (n + size e) Γ) _ (judged_all es (n + size e) Γ) λ As tAs.
        (tA, tAs)

    judged_arms : (qs : Exprs) (l : List (List Ty)) (w n : ℕ) (Γ : List Ty) → Found (λ Bs. (B : Ty) → alike B Bs ≡ true → TypArms fs qs l Γ B) (arms_verdict fs qs l w n Γ)
    judged_arms end [] w n Γ = λ B h. tt
    judged_arms end (b ∷ l) w n Γ = tt
    judged_arms (q then qs) [] w n Γ = tt
    judged_arms (q then qs) (b ∷ l) w n Γ =
        found_bind (λ A. Typ fs q (Γ ++ b) A) (λ Bs. (B : Ty) → alike B Bs ≡ true → TypArms fs (q then qs) (b ∷ l) Γ B) (judge fs q n (Γ ++ b)) _ (judged q n (Γ ++ b)) λ A tA.
        found_bind (λ Bs. (B : Ty) → alike B Bs ≡ true → TypArms fs qs l Γ B) (λ Bs. (B : Ty) → alike B Bs ≡ true → TypArms fs (q then qs) (b ∷ l) Γ B)
        (arms_verdict fs qs l w (n + size q) Γ) _ (judged_arms qs l w (n + size q) Γ) λ As k.
        λ B h. let p = and_parts (same_ty B A) (alike B As) h in
        (subst⁻¹ (λ (S : Ty). Typ fs q (Γ ++ b) S) (same_eq B A p.0) tA, k B p.1)

  bodies_more : (x : Fun) (r : List Fun) → Typ fs x.body x.params x.result → Bodies fs r → Bodies fs (x ∷ r)
  bodies_more x r t k zero h = t
  bodies_more x r t k (suc f) h = k f (le_of_suc-le-suc h)

  judged_bodies : (r : List Fun) (n : ℕ) → Found (λ u. Bodies fs r) (bodies_verdict fs r n)
  judged_bodies [] n = λ f h. absurd (not-suc-le-zero h)
  judged_bodies (x ∷ r) n =
      found_bind (λ A. Typ fs x.body x.params A) (λ u. Bodies fs (x ∷ r)) (judge fs x.body n x.params) _ (judged x.body n x.params) λ A tA.
      found_bind (λ u. same_ty A x.result ≡ true) (λ u. Bodies fs (x ∷ r)) (demand (same_ty A x.result) TypeFault n tt) _
      (found_demand _ (same_ty A x.result) TypeFault n tt (λ e. e)) λ u e.
      found_map (λ v. Bodies fs r) (λ v. Bodies fs (x ∷ r)) (bodies_verdict fs r (n + size x.body)) (judged_bodies r (n + size x.body))
      λ v k. bodies_more x r (subst (λ (S : Ty). Typ fs x.body x.params S) (same_eq A x.result e) tA) k
    where
      found_map : {X : Type 0} (P Q : X → Type 0) (m : Verdict X) → Found P m → ((x : X) → P x → Q x) → Found Q m
      found_map P Q (fine x) h k = k x h
      found_map P Q (faulty w i) h k = tt

  -- with no arms the whole's type is the rule's own: a choice has at least one arm
  no_arms : (h : Head) (Γ As : List Ty) (B : Ty) → fits (rule fs Γ h As) As ≡ true → TypArms fs end (rule fs Γ h As).arms Γ B
      → (C : Ty) → (rule fs Γ h As).whole C ≡ (rule fs Γ h As).whole B
  no_arms (var i) Γ As B t a C = refl
  no_arms (call f) Γ As B t a C = refl
  no_arms (const z) Γ As B t a C = refl
  no_arms (apply o) Γ As B t a C = refl
  no_arms guard Γ As B t a C = absurd a
  no_arms (mk_pair A) Γ As B t a C = refl
  no_arms case_pair Γ As B t a C = absurd (subst (λ (S : Ty). TypArms fs end (opened S) Γ B) (same_eq _ _ (and_parts _ _ t).0) a)
  no_arms (mk_left A) Γ As B t a C = refl
  no_arms (mk_right A) Γ As B t a C = refl
  no_arms case_sum Γ As B t a C = absurd (subst (λ (S : Ty). TypArms fs end (opened S) Γ B) (same_eq _ _ (and_parts _ _ t).0) a)
  no_arms (mk_nil A) Γ As B t a C = refl
  no_arms mk_cons Γ As B t a C = refl
  no_arms case_list Γ As B t a C = absurd (subst (λ (S : Ty). TypArms fs end (opened S) Γ B) (same_eq _ _ (and_parts _ _ t).0) a)
  no_arms (mk_leaf A) Γ As B t a C = refl
  no_arms mk_node Γ As B t a C = refl
  no_arms case_tree Γ As B t a C = absurd (subst (λ (S : Ty). TypArms fs end (opened S) Γ B) (same_eq _ _ (and_parts _ _ t).0) a)

  -- the type that the arms are found to have
  found_arms : (h : Head) (qs : Exprs) (Γ As : List Ty) (B : Ty) → fits (rule fs Γ h As) As ≡ true → TypArms fs qs (rule fs Γ h As).arms Γ B →
      (alike (type_at (copies qs B) 0) (copies qs B) ≡ true) × ((rule fs Γ h As).whole (type_at (copies qs B) 0) ≡ (rule fs Γ h As).whole B)
  found_arms h end Γ As B t a = (refl, no_arms h Γ As B t a int)
  found_arms h (q then qs) Γ As B t a = (alike_copies (q then qs) B, refl)

  -- what has a type is judged so
  mutual
    finds : (e : Expr) (n : ℕ) (Γ : List Ty) (A : Ty) → Typ fs e Γ A → judge fs e n Γ ≡ fine A
    finds (expr h ps qs) n Γ A (As, B, t, e, a, u, s) =
        let c = found_arms h qs Γ As B e a in
        then_fine (exprs_verdict fs ps (suc n) Γ) As _ _ (finds_all ps (suc n) Γ As t)
        (then_fine (demand (not (early h) || fits (rule fs Γ h As) As) TypeFault n tt) tt _ _ (demand_fine _ TypeFault n tt (or_right (not (early h)) _ e))
        (then_fine (arms_verdict fs qs (rule fs Γ h As).arms n (suc n + sizes ps) Γ) (copies qs B) _ _ (finds_arms qs (rule fs Γ h As).arms n (suc n + sizes ps) Γ B a)
        (then_fine (demand (fits (rule fs Γ h As) As && alike (type_at (copies qs B) 0) (copies qs B)) TypeFault n tt) tt _ _
        (demand_fine _ TypeFault n tt (and_from _ _ e c.0))
        (demand_fine (not (shares 0 Γ ps qs)) Sharing n ((rule fs Γ h As).whole (type_at (copies qs B) 0)) (ap not s) ∙ ap fine (c.1 ∙ u)))))

    finds_all : (es : Exprs) (n : ℕ) (Γ As : List Ty) → TypAll fs es Γ As → exprs_verdict fs es n Γ ≡ fine As
    finds_all end n Γ [] t = refl
    finds_all end n Γ (A ∷ As) t = absurd t
    finds_all (e then es) n Γ [] t = absurd t
    finds_all (e then es) n Γ (A ∷ As) t =
        then_fine (judge fs e n Γ) A _ _ (finds e n Γ A t.0) (then_fine (exprs_verdict fs es (n + size e) Γ) As _ _ (finds_all es (n + size e) Γ As t.1) refl)

    finds_arms : (qs : Exprs) (l : List (List Ty)) (w n : ℕ) (Γ : List Ty) (B : Ty) → TypArms fs qs l Γ B → arms_verdict fs qs l w n Γ ≡ fine (copies qs B)
    finds_arms end [] w n Γ B t = refl
    finds_arms end (b ∷ l) w n Γ B t = absurd t
    finds_arms (q then qs) [] w n Γ B t = absurd t
    finds_arms (q then qs) (b ∷ l) w n Γ B t =
        then_fine (judge fs q n (Γ ++ b)) B _ _ (finds q n (Γ ++ b) B t.0)
        (then_fine (arms_verdict fs qs l w (n + size q) Γ) (copies qs B) _ _ (finds_arms qs l w (n + size q) Γ B t.1) refl)

  finds_bodies : (r : List Fun) (n : ℕ) → Bodies fs r → bodies_verdict fs r n ≡ fine tt
  finds_bodies [] n b = refl
  finds_bodies (x ∷ r) n b =
      then_fine (judge fs x.body n x.params) x.result _ _ (finds x.body n x.params x.result (b 0 (omega arith)))
      (then_fine (demand (same_ty x.result x.result) TypeFault n tt) tt _ _ (demand_fine _ TypeFault n tt (same_refl x.result))
      (finds_bodies r (n + size x.body) (λ f h. b (suc f) (omega arith))))

pub judge_law : JudgeLaw
judge_law fs e n Γ A = ((λ h. found_fine (λ S. Typ fs e Γ S) (judge fs e n Γ) A (judged fs e n Γ) h), (λ t. finds fs e n Γ A t))

pub program_law : ProgramLaw
program_law p = (
  (λ h. found_fine _ (program_verdict p) tt (judged_bodies p.functions p.functions 0) h),
  (λ b. finds_bodies p.functions p.functions 0 b),
)
