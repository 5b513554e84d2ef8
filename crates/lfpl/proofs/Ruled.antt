-- The table of rules applies Hofmann's rules: where the parts fit a head's rule and are derived in contexts that are apart, the expression is derived.
use Rattle.std.proofs.Common.{◌≡◌, ℕ, ◌+◌, ◌<◌, Bool, true, ◌&&◌, List, [], ◌∷◌, length, ℤ, sym, refl, subst, arith}
use mathlib.Core.Option.{some}
use Rattle.std.proofs.lemmas.Bool.{and_parts, ltb-true, eq-eqb}
use Rattle.lfpl.specs.Syntax.{Ty, int, diamond, list_of, tree_of, pair_of, sum_of, first, second, same_ty, HeadOf, Infix, Head, is_var, var, call, const, apply, guard, mk_pair, case_pair, mk_left, mk_right, case_sum, mk_nil, mk_cons, case_list, mk_leaf, mk_node, case_tree, Term, Terms, expr, end, ◌then◌, rename_head, Fun}
use Rattle.lfpl.specs.Typing.{rule, fits, type_at, fun_at, opened, same_tys}
use Rattle.lfpl.specs.Hofmann.{Name, Context, Union, Derives, Var, Sig, Const, InfixOp, If, Pair, Split, Inl, Inr, SumElim, Nil, Cons, ListElim, Leaf, Node, TreeElim, Derive, Zero, One, More, Under, Binding}
use Rattle.lfpl.proofs.SameTypes.{same_eq, sames_eq}

-- arms in one context, that bind variables of the types in the list
pub data Limbs (Σ : List Fun) : ℕ → Context → Terms Name → List (List Ty) → Ty → Type 0 where
  Limb : {n : ℕ} {Γ : Context} (e : Term Name) (es : Terms Name) (b : List Ty) (l : List (List Ty)) (C : Ty) → Under Σ n Γ b e C → Limbs Σ n Γ es l C
      → Limbs Σ n Γ (e then es) (b ∷ l) C
  Stump : {n : ℕ} {Γ : Context} (C : Ty) → Limbs Σ n Γ end [] C

-- one part, and arms in a context apart from the part's
pub data Choice (Σ : List Fun) : ℕ → Context → Terms Name → Ty → Terms Name → List (List Ty) → Ty → Type 0 where
  Chosen : {n : ℕ} {Θ Γ Δ : Context} (e : Term Name) (T : Ty) (qs : Terms Name) (l : List (List Ty)) (C : Ty) → Union Θ Γ Δ → Derives Σ n Γ e T → Limbs Σ n Δ qs l C
      → Choice Σ n Θ (e then end) T qs l C

unbind : {Σ : List Fun} {n : ℕ} {Γ : Context} {e : Term Name} {A : Ty} → Under Σ n Γ [] e A → Derives Σ n Γ e A
unbind {Σ} {n} {Γ} (Binding Bs e A new d) = subst (λ (m : ℕ). Derives Σ m Γ e A) (let z : n + 0 ≡ n = omega arith in z) d

module _ {Σ : List Fun} {n : ℕ} {Γ : Context} where
  by_var : {es : Terms Name} (x : Name) (A : Ty) → Γ x ≡ some A → Derive Σ n Γ es [] → Derives Σ n Γ (expr (var x) es end) A
  by_var x A p Zero = Var x A p

  by_const : {es : Terms Name} (z : ℤ) → Derive Σ n Γ es [] → Derives Σ n Γ (expr (const z) es end) int
  by_const z Zero = Const z

  by_nil : {es : Terms Name} (A : Ty) → Derive Σ n Γ es [] → Derives Σ n Γ (expr (mk_nil (list_of A)) es end) (list_of A)
  by_nil A Zero = Nil A

  by_infix : {es : Terms Name} (o : Infix) → Derive Σ n Γ es (int ∷ int ∷ []) → Derives Σ n Γ (expr (apply o) es end) int
  by_infix o (More e e₂ es A A₂ As j d (One e' A' d')) = InfixOp o e e' j d d'

  by_pair : {es : Terms Name} (A B : Ty) → Derive Σ n Γ es (A ∷ B ∷ []) → Derives Σ n Γ (expr (mk_pair (pair_of A B)) es end) (pair_of A B)
  by_pair A B (More e e₂ es A₁ A₂ As j d (One e' A' d')) = Pair e e' A B j d d'

  by_left : {es : Terms Name} (A B : Ty) → Derive Σ n Γ es (A ∷ []) → Derives Σ n Γ (expr (mk_left (sum_of A B)) es end) (sum_of A B)
  by_left A B (One e A' d) = Inl e A B d

  by_right : {es : Terms Name} (A B : Ty) → Derive Σ n Γ es (B ∷ []) → Derives Σ n Γ (expr (mk_right (sum_of A B)) es end) (sum_of A B)
  by_right A B (One e A' d) = Inr e A B d

  by_leaf : {es : Terms Name} (A : Ty) → Derive Σ n Γ es (A ∷ []) → Derives Σ n Γ (expr (mk_leaf (tree_of A)) es end) (tree_of A)
  by_leaf A (One e A' d) = Leaf e A d

  by_cons : {es : Terms Name} (A : Ty) → Derive Σ n Γ es (diamond ∷ A ∷ list_of A ∷ []) → Derives Σ n Γ (expr mk_cons es end) (list_of A)
  by_cons A (More e₁ f₁ fs₁ A₁ B₁ Bs₁ j₁ d₁ (More e₂ f₂ fs₂ A₂ B₂ Bs₂ j₂ d₂ (One e₃ A₃ d₃))) =
      Cons e₁ e₂ e₃ A (More e₁ e₂ (e₃ then end) _ _ _ j₁ d₁ (More e₂ e₃ end _ _ _ j₂ d₂ (One e₃ _ d₃)))

  by_node : {es : Terms Name} (A : Ty) → Derive Σ n Γ es (diamond ∷ diamond ∷ A ∷ tree_of A ∷ tree_of A ∷ []) → Derives Σ n Γ (expr mk_node es end) (tree_of A)
  by_node A (More e₁ f₁ fs₁ A₁ B₁ Bs₁ j₁ d₁ (More e₂ f₂ fs₂ A₂ B₂ Bs₂ j₂ d₂ (More e₃ f₃ fs₃ A₃ B₃ Bs₃ j₃ d₃ (More e₄ f₄ fs₄ A₄ B₄ Bs₄ j₄ d₄ (One e₅ A₅ d₅))))) =
      Node e₁ e₂ e₃ e₄ e₅ A (More e₁ e₂ (e₃ then e₄ then e₅ then end) _ _ _ j₁ d₁ (More e₂ e₃ (e₄ then e₅ then end) _ _ _ j₂ d₂
      (More e₃ e₄ (e₅ then end) _ _ _ j₃ d₃ (More e₄ e₅ end _ _ _ j₄ d₄ (One e₅ _ d₅)))))

  by_if : {es qs : Terms Name} (C : Ty) → Choice Σ n Γ es int qs (opened int) C → Derives Σ n Γ (expr guard es qs) C
  by_if C (Chosen e T qs l C' j d (Limb e₁ r₁ b₁ l₁ C₁ u₁ (Limb e₂ r₂ b₂ l₂ C₂ u₂ (Stump C₃)))) = If e e₁ e₂ C j d (unbind u₁) (unbind u₂)

  by_split : {es qs : Terms Name} (A B C : Ty) → Choice Σ n Γ es (pair_of A B) qs (opened (pair_of A B)) C → Derives Σ n Γ (expr case_pair es qs) C
  by_split A B C (Chosen e T qs l C' j d (Limb e₁ r₁ b₁ l₁ C₁ u₁ (Stump C₃))) = Split e e₁ A B C j d u₁

  by_sum : {es qs : Terms Name} (A B C : Ty) → Choice Σ n Γ es (sum_of A B) qs (opened (sum_of A B)) C → Derives Σ n Γ (expr case_sum es qs) C
  by_sum A B C (Chosen e T qs l C' j d (Limb e₁ r₁ b₁ l₁ C₁ u₁ (Limb e₂ r₂ b₂ l₂ C₂ u₂ (Stump C₃)))) = SumElim e e₁ e₂ A B C j d u₁ u₂

  by_list : {es qs : Terms Name} (A C : Ty) → Choice Σ n Γ es (list_of A) qs (opened (list_of A)) C → Derives Σ n Γ (expr case_list es qs) C
  by_list A C (Chosen e T qs l C' j d (Limb e₁ r₁ b₁ l₁ C₁ u₁ (Limb e₂ r₂ b₂ l₂ C₂ u₂ (Stump C₃)))) = ListElim e e₁ e₂ A C j d (unbind u₁) u₂

  by_tree : {es qs : Terms Name} (A C : Ty) → Choice Σ n Γ es (tree_of A) qs (opened (tree_of A)) C → Derives Σ n Γ (expr case_tree es qs) C
  by_tree A C (Chosen e T qs l C' j d (Limb e₁ r₁ b₁ l₁ C₁ u₁ (Limb e₂ r₂ b₂ l₂ C₂ u₂ (Stump C₃)))) = TreeElim e e₁ e₂ A C j d u₁ u₂

-- What is known of an expression's parts ps, of the types As, and arms qs: they are derived as parts without arms, and as one part with arms.
pub record Premises (Σ : List Fun) (n : ℕ) (Γ : Context) (ps qs : Terms Name) (As : List Ty) (l : List (List Ty)) (C : Ty) : Type 0 where
  pub parts : l ≡ [] → Derive Σ n Γ ps As
  pub armless : l ≡ [] → qs ≡ end
  pub choice : (T : Ty) → As ≡ T ∷ [] → Choice Σ n Γ ps T qs l C

module _ (Σ : List Fun) (n : ℕ) (Γ : Context) (Ξ : List Ty) (ps qs : Terms Name) (As : List Ty) (C : Ty) where
  -- a rule that builds
  built : (h : HeadOf Name) (t : Bool) (Ws : List Ty) (T : Ty) → (t && same_tys As Ws) ≡ true → Premises Σ n Γ ps qs As [] C
      → (t ≡ true → Derive Σ n Γ ps Ws → Derives Σ n Γ (expr h ps end) T) → Derives Σ n Γ (expr h ps qs) T
  built h t Ws T f p k =
      let q = and_parts t (same_tys As Ws) f in
      subst (λ (r : Terms Name). Derives Σ n Γ (expr h ps r) T) (sym (p.armless refl)) (k q.0 (subst (λ (l : List Ty). Derive Σ n Γ ps l) (sames_eq As Ws q.1) (p.parts refl)))

  -- a rule that chooses by a value of the type T, which is K
  chose : (h : HeadOf Name) (t : Bool) (T K : Ty) → (t && same_tys As (T ∷ [])) ≡ true → Premises Σ n Γ ps qs As (opened T) C → (t ≡ true → T ≡ K)
      → (Choice Σ n Γ ps K qs (opened K) C → Derives Σ n Γ (expr h ps qs) C) → Derives Σ n Γ (expr h ps qs) C
  chose h t T K f p is k =
      let q = and_parts t (same_tys As (T ∷ [])) f in
      k (subst (λ (S : Ty). Choice Σ n Γ ps S qs (opened S) C) (is q.0) (p.choice T (sames_eq As (T ∷ []) q.1)))

  -- at a type that is known by an equation
  of : (P : Ty → Type 0) (T K : Ty) → same_ty T K ≡ true → P K → P T
  of P T K t d = subst P (sym (same_eq T K t)) d

  pub by_rule : (θ : ℕ → Name) (h : Head) → fits (rule Σ Ξ h As) As ≡ true → ((i : ℕ) → is_var i h ≡ true → i < length Ξ → Γ (θ i) ≡ some (type_at Ξ i))
      → Premises Σ n Γ ps qs As (rule Σ Ξ h As).arms C → Derives Σ n Γ (expr (rename_head θ h) ps qs) ((rule Σ Ξ h As).whole C)
  by_rule θ (var i) f has p = built (var (θ i)) _ [] _ f p (λ t. by_var (θ i) (type_at Ξ i) (has i (eq-eqb i i refl) (ltb-true i (length Ξ) t)))
  by_rule θ (call g) f has p = built (call g) _ _ _ f p (λ t. Sig g (fun_at Σ g) ps (ltb-true g (length Σ) t, refl))
  by_rule θ (const z) f has p = built (const z) true _ _ f p (λ t. by_const z)
  by_rule θ (apply o) f has p = built (apply o) true _ _ f p (λ t. by_infix o)
  by_rule θ guard f has p = chose guard true int int f p (λ t. refl) (by_if C)
  by_rule θ (mk_pair A) f has p =
      built (mk_pair A) _ _ _ f p (λ t d. of (λ S. Derives Σ n Γ (expr (mk_pair S) ps end) S) A (pair_of (first A) (second A)) t (by_pair (first A) (second A) d))
  by_rule θ case_pair f has p = let T = type_at As 0 in chose case_pair _ T (pair_of (first T) (second T)) f p (same_eq T _) (by_split (first T) (second T) C)
  by_rule θ (mk_left A) f has p =
      built (mk_left A) _ _ _ f p (λ t d. of (λ S. Derives Σ n Γ (expr (mk_left S) ps end) S) A (sum_of (first A) (second A)) t (by_left (first A) (second A) d))
  by_rule θ (mk_right A) f has p =
      built (mk_right A) _ _ _ f p (λ t d. of (λ S. Derives Σ n Γ (expr (mk_right S) ps end) S) A (sum_of (first A) (second A)) t (by_right (first A) (second A) d))
  by_rule θ case_sum f has p = let T = type_at As 0 in chose case_sum _ T (sum_of (first T) (second T)) f p (same_eq T _) (by_sum (first T) (second T) C)
  by_rule θ (mk_nil A) f has p = built (mk_nil A) _ _ _ f p (λ t d. of (λ S. Derives Σ n Γ (expr (mk_nil S) ps end) S) A (list_of (first A)) t (by_nil (first A) d))
  by_rule θ mk_cons f has p =
      let T = type_at As 2 in
      built mk_cons _ _ _ f p (λ t. of (λ S. Derive Σ n Γ ps (diamond ∷ first T ∷ S ∷ []) → Derives Σ n Γ (expr mk_cons ps end) S) T (list_of (first T)) t (by_cons (first T)))
  by_rule θ case_list f has p = let T = type_at As 0 in chose case_list _ T (list_of (first T)) f p (same_eq T _) (by_list (first T) C)
  by_rule θ (mk_leaf A) f has p = built (mk_leaf A) _ _ _ f p (λ t d. of (λ S. Derives Σ n Γ (expr (mk_leaf S) ps end) S) A (tree_of (first A)) t (by_leaf (first A) d))
  by_rule θ mk_node f has p =
      let T = type_at As 3 in
      built mk_node _ _ _ f p
      (λ t. of (λ S. Derive Σ n Γ ps (diamond ∷ diamond ∷ first T ∷ S ∷ S ∷ []) → Derives Σ n Γ (expr mk_node ps end) S) T (tree_of (first T)) t (by_node (first T)))
  by_rule θ case_tree f has p = let T = type_at As 0 in chose case_tree _ T (tree_of (first T)) f p (same_eq T _) (by_tree (first T) C)
