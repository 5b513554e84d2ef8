-- Copies of variables are contracted, one after the other: what is derived with copies y : T y of variables ρ y is derived without them, each y replaced by ρ y.
use Rattle.std.proofs.Common.{◌≡◌, ℕ, zero, suc, ◌<◌, Bool, true, false, cond, ◌&&◌, ◌||◌, List, [], ◌∷◌, sym, refl, ap, ◌∙◌, subst, inl, inr, not-suc-le-zero, arith}
use mathlib.Core.Bool.{false≢true}
use mathlib.Core.Option.{none, some}
use mathlib.Core.Path.{fun_ext}
use Rattle.std.proofs.lemmas.Bool.{and_parts, and_from, or_cases, or_left, or_right, cases_lt}
use Rattle.lfpl.specs.Syntax.{Ty, is_heap_free, Term, rename, Fun}
use Rattle.lfpl.specs.Hofmann.{Name, named, same_name, replace, Context, with, Free, Derives, Contr}
use Rattle.lfpl.proofs.Renamed.{rename_twice, rename_same}
use Rattle.lfpl.proofs.Names.{no_some, case, same_inv, same_self}

-- Θ with the copies in the set D
abbrev pub added : (Name → Bool) → (Name → Ty) → Context → Context
added D T Θ z = cond (D z) (some (T z)) (Θ z)

-- each copy in the set D is replaced by its original
abbrev pub merge : (Name → Bool) → (Name → Name) → Name → Name
merge D ρ z = cond (D z) (ρ z) z

-- the names of a list that are copies
abbrev among : (Name → Bool) → List Name → Name → Bool
among copy [] z = false
among copy (y ∷ ys) z = (same_name z y && copy y) || among copy ys z

-- a copy's type is heap-free, its original is in the context with the same type, and neither is bound later
pub record Copies (n : ℕ) (Θ : Context) (copy : Name → Bool) (T : Name → Ty) (ρ : Name → Name) : Type 0 where
  pub light : (y : Name) → copy y ≡ true → is_heap_free (T y) ≡ true
  pub absent : (y : Name) → copy y ≡ true → Θ y ≡ none
  pub present : (y : Name) → copy y ≡ true → Θ (ρ y) ≡ some (T y)
  pub free : (y : Name) → copy y ≡ true → Free n y
  pub original : (y : Name) → copy y ≡ true → Free n (ρ y)

among_copy : (copy : Name → Bool) (ys : List Name) (z : Name) → among copy ys z ≡ true → copy z ≡ true
among_copy copy [] z p = absurd (false≢true p)
among_copy copy (y ∷ ys) z p = elim (or_cases (same_name z y && copy y) (among copy ys z) p) [
  | inl q ↦ let r = and_parts (same_name z y) (copy y) q in ap copy (same_inv z y r.0) ∙ r.1
  | inr q ↦ among_copy copy ys z q
]

module _ (Σ : List Fun) (n : ℕ) (Θ : Context) (copy : Name → Bool) (T : Name → Ty) (ρ : Name → Name) (k : Copies n Θ copy T ρ) (B : Ty) where
  -- an original is no copy
  original_among : (ys : List Name) (y : Name) → copy y ≡ true → among copy ys (ρ y) ≡ false
  original_among ys y p = case (among copy ys (ρ y)) (λ q. no_some (sym (k.absent (ρ y) (among_copy copy ys (ρ y) q)) ∙ k.present y p)) (λ q. q)

  -- one contraction
  step : (y : Name) (ys : List Name) (t : Term Name) → copy y ≡ true → among copy ys y ≡ false
      → Derives Σ n (added (among copy (y ∷ ys)) T Θ) t B → Derives Σ n (added (among copy ys) T Θ) (replace (ρ y) y t) B
  step y ys t p q d =
      subst (λ (Γ : Context). Derives Σ n Γ (replace x y t) B) (fun_ext fewer)
      (Contr t x y A B (k.original y p) (k.free y p) (λ e. no_some (sym (k.absent y p) ∙ ap Θ (sym e) ∙ k.present y p))
      (rw (same_self x) refl) no_y (k.light y p)
      (subst (λ (Γ : Context). Derives Σ n Γ t B) (sym (fun_ext all)) d))
    where
      x : Name
      x = ρ y

      A : Ty
      A = T y

      S : Context
      S = added (among copy ys) T Θ

      Γ₀ : Context
      Γ₀ z = cond (same_name z x) none (S z)

      at_x : S x ≡ some A
      at_x = rw (original_among ys y p) (k.present y p)

      no_y : Γ₀ y ≡ none
      no_y = case (same_name y x) (λ e. rw e refl) (λ e. rw (e, q) (k.absent y p))

      fewer : (z : Name) → with Γ₀ x A z ≡ S z
      fewer z = case (same_name z x) (λ e. rw e (sym at_x ∙ ap S (sym (same_inv z x e)))) (λ e. rw e refl)

      all : (z : Name) → with (with Γ₀ x A) y A z ≡ added (among copy (y ∷ ys)) T Θ z
      all z = case (same_name z y) (λ e. rw (e, p) (ap (λ (u : Name). some (T u)) (sym (same_inv z y e)))) (λ e. rw e (fewer z))

  abbrev Contracts : (Name → Bool) → Term Name → Type 0
  Contracts D t = Derives Σ n (added D T Θ) t B → Derives Σ n Θ (rename (merge D ρ) t) B

  one_more : (y : Name) (ys : List Name) → ((t : Term Name) → Contracts (among copy ys) t) → (t : Term Name) → Contracts (among copy (y ∷ ys)) t
  one_more y ys rest t = case (copy y) (λ p. case (among copy ys y) (λ q. skip (again q)) (λ q. next p q)) (λ p. skip (other p))
    where
      skip : ((z : Name) → among copy (y ∷ ys) z ≡ among copy ys z) → Contracts (among copy (y ∷ ys)) t
      skip e = subst (λ (D : Name → Bool). Contracts D t) (sym (fun_ext e)) (rest t)

      again : among copy ys y ≡ true → (z : Name) → among copy (y ∷ ys) z ≡ among copy ys z
      again q z = case (same_name z y)
          (λ e. let r : among copy ys z ≡ true = ap (among copy ys) (same_inv z y e) ∙ q in or_right (same_name z y && copy y) _ r ∙ sym r)
          (λ e. rw e refl)

      other : copy y ≡ false → (z : Name) → among copy (y ∷ ys) z ≡ among copy ys z
      other p z = case (same_name z y) (λ e. rw (e, p) refl) (λ e. rw e refl)

      joined : copy y ≡ true → (z : Name) → merge (among copy ys) ρ (cond (same_name z y) (ρ y) z) ≡ merge (among copy (y ∷ ys)) ρ z
      joined p z = case (same_name z y) (λ e. rw (e, p, original_among ys y p) (ap ρ (sym (same_inv z y e)))) (λ e. rw e refl)

      next : copy y ≡ true → among copy ys y ≡ false → Contracts (among copy (y ∷ ys)) t
      next p q d =
          subst (λ (r : Term Name). Derives Σ n Θ r B) (rename_twice (merge (among copy ys) ρ) (λ z. cond (same_name z y) (ρ y) z) (merge (among copy (y ∷ ys)) ρ) (joined p) t)
          (rest (replace (ρ y) y t) (step y ys t p q d))

  contract_list : (ys : List Name) (t : Term Name) → Contracts (among copy ys) t
  contract_list [] t d = subst (λ (r : Term Name). Derives Σ n Θ r B) (sym (rename_same t)) d
  contract_list (y ∷ ys) t d = one_more y ys (contract_list ys) t d

-- all names with numbers below n and fewer than m primes
abbrev row : ℕ → ℕ → List Name → List Name
row v zero zs = zs
row v (suc i) zs = named v i ∷ row v i zs

abbrev grid : ℕ → ℕ → List Name
grid zero m = []
grid (suc v) m = row v m (grid v m)

module _ (copy : Name → Bool) where
  in_row : (m v i : ℕ) (zs : List Name) → i < m → copy (named v i) ≡ true → among copy (row v m zs) (named v i) ≡ true
  in_row zero v i zs h p = absurd (not-suc-le-zero h)
  in_row (suc m) v i zs h p = elim (cases_lt i m) [
    | inl l ↦ or_right _ _ (in_row m v i zs l p)
    | inr l ↦
        let e : i ≡ m = omega arith in
        or_left _ _ (subst (λ (j : ℕ). (same_name (named v i) (named v j) && copy (named v j)) ≡ true) e (and_from _ _ (same_self (named v i)) p))
  ]

  past_row : (m v : ℕ) (zs : List Name) (z : Name) → among copy zs z ≡ true → among copy (row v m zs) z ≡ true
  past_row zero v zs z p = p
  past_row (suc m) v zs z p = or_right _ _ (past_row m v zs z p)

  in_grid : (n m v i : ℕ) → v < n → i < m → copy (named v i) ≡ true → among copy (grid n m) (named v i) ≡ true
  in_grid zero m v i l h p = absurd (not-suc-le-zero l)
  in_grid (suc n) m v i l h p = elim (cases_lt v n) [
    | inl q ↦ past_row m n (grid n m) (named v i) (in_grid n m v i q h p)
    | inr q ↦ let e : v ≡ n = omega arith in subst (λ (w : ℕ). among copy (row w m (grid n m)) (named v i) ≡ true) e (in_row m v i (grid n m) h p)
  ]

  grid_copies : (n m : ℕ) → ((v i : ℕ) → copy (named v i) ≡ true → (v < n) × (i < m)) → (z : Name) → among copy (grid n m) z ≡ copy z
  grid_copies n m within (named v i) = case (copy (named v i))
      (λ p. let b = within v i p in in_grid n m v i b.0 b.1 p ∙ sym p)
      (λ p. case (among copy (grid n m) (named v i)) (λ q. absurd (false≢true (sym p ∙ among_copy copy (grid n m) (named v i) q))) (λ q. q ∙ sym p))

pub contract : (Σ : List Fun) (n m : ℕ) (Θ : Context) (copy : Name → Bool) (T : Name → Ty) (ρ : Name → Name) → Copies n Θ copy T ρ
    → ((v i : ℕ) → copy (named v i) ≡ true → (v < n) × (i < m)) → (t : Term Name) (B : Ty) → Derives Σ n (added copy T Θ) t B → Derives Σ n Θ (rename (merge copy ρ) t) B
contract Σ n m Θ copy T ρ k within t B d =
    subst (λ (D : Name → Bool). Derives Σ n (added D T Θ) t B → Derives Σ n Θ (rename (merge D ρ) t) B) (fun_ext (grid_copies copy n m within))
    (contract_list Σ n Θ copy T ρ k B (grid n m) t) d
