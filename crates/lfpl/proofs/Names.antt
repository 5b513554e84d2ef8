-- Names and contexts: which names are the same, and what an extended context has.
use Rattle.std.proofs.Common.{◌≡◌, ℕ, suc, ◌+◌, ◌-◌, ◌<◌, ◌≤◌, Bool, true, false, cond, eqb, List, [], ◌∷◌, length, refl, ap, ◌∙◌, ap₂, inl, inr, arith}
use mathlib.Core.Option.{none, some}
use Rattle.std.proofs.lemmas.Bool.{and_parts, and_from, cases_lt, eqb-true, eq-eqb}
use Rattle.lfpl.specs.Syntax.{Ty}
use Rattle.lfpl.specs.Typing.{type_at}
use Rattle.lfpl.specs.Hofmann.{Name, named, same_name, plain, Context, with, extended}

pub no_some : {X : Type 0} {x : X} {Y : Type 0} → none ≡ some x → Y
no_some p = let z : ◌≡◌ {A = ℕ} 0 1 = cc in absurd (omega arith)

pub some_inj : {X : Type 0} {x y : X} → some x ≡ some y → x ≡ y
some_inj p = cc

-- a test's two cases, with what each says
pub case : {X : Type 0} (b : Bool) → (b ≡ true → X) → (b ≡ false → X) → X
case true f g = f refl
case false f g = g refl

abbrev pub number_of : Name → ℕ
number_of (named v i) = v

abbrev pub primes_of : Name → ℕ
primes_of (named v i) = i

pub same_inv : (x y : Name) → same_name x y ≡ true → x ≡ y
same_inv (named v i) (named w j) p =
    let q = and_parts (eqb v w) (eqb i j) p in
    ap₂ named (eqb-true v w q.0) (eqb-true i j q.1)

pub same_self : (x : Name) → same_name x x ≡ true
same_self (named v i) = and_from (eqb v v) (eqb i i) (eq-eqb v v refl) (eq-eqb i i refl)

pub other_name : (x y : Name) → (x ≡ y → ⊥) → same_name x y ≡ false
other_name x y ne = case (same_name x y) (λ p. absurd (ne (same_inv x y p))) (λ p. p)

-- a name of an extended context is one of the context, or one of the new numbers
pub data Found (n : ℕ) (Γ : Context) (Bs : List Ty) (x : Name) (A : Ty) : Type 0 where
  old : Γ x ≡ some A → Found n Γ Bs x A
  new : (v : ℕ) → x ≡ plain v → n ≤ v → v < n + length Bs → type_at Bs (v - n) ≡ A → Found n Γ Bs x A

pub found : (Bs : List Ty) (n : ℕ) (Γ : Context) (x : Name) (A : Ty) → extended n Γ Bs x ≡ some A → Found n Γ Bs x A
found [] n Γ x A p = old p
found (B ∷ Bs) n Γ x A p = go (found Bs (suc n) (with Γ (plain n) B) x A p)
  where
    last : (b : Bool) → same_name x (plain n) ≡ b → cond b (some B) (Γ x) ≡ some A → Found n Γ (B ∷ Bs) x A
    last true e q = new n (same_inv x (plain n) e) (omega arith) (omega arith) (ap (type_at (B ∷ Bs)) (let z : n - n ≡ 0 = omega arith in z) ∙ some_inj q)
    last false e q = old q

    go : Found (suc n) (with Γ (plain n) B) Bs x A → Found n Γ (B ∷ Bs) x A
    go (old q) = last (same_name x (plain n)) refl q
    go (new v e l h q) = new v e (omega arith) (omega arith) (ap (type_at (B ∷ Bs)) (let z : v - n ≡ suc (v - suc n) = omega arith in z) ∙ q)

-- what it has under another name, and under a new number
pub look_old : (Bs : List Ty) (n : ℕ) (Γ : Context) (v i : ℕ) → (n ≤ v → v < n + length Bs → i ≡ 0 → ⊥) → extended n Γ Bs (named v i) ≡ Γ (named v i)
look_old [] n Γ v i ne = refl
look_old (B ∷ Bs) n Γ v i ne =
    look_old Bs (suc n) (with Γ (plain n) B) v i (λ a b z. ne (omega arith) (omega arith) z)
    ∙ rw (other_name (named v i) (plain n) (λ e. let a = ap number_of e in let b = ap primes_of e in ne (omega arith) (omega arith) b)) refl

pub look_new : (Bs : List Ty) (n : ℕ) (Γ : Context) (v : ℕ) → n ≤ v → v < n + length Bs → extended n Γ Bs (plain v) ≡ some (type_at Bs (v - n))
look_new [] n Γ v l h = absurd (omega arith)
look_new (B ∷ Bs) n Γ v l h = elim (cases_lt n v) [
  | inl g ↦
      let e : suc (v - suc n) ≡ v - n = omega arith in
      look_new Bs (suc n) (with Γ (plain n) B) v g (omega arith) ∙ ap (λ (i : ℕ). some (type_at (B ∷ Bs) i)) e
  | inr g ↦
      let e : 0 ≡ v - n = omega arith in
      look_old Bs (suc n) (with Γ (plain n) B) v 0 (λ a b z. absurd (omega arith))
      ∙ rw (and_from (eqb v n) (eqb 0 0) (eq-eqb v n (omega arith)) (eq-eqb 0 0 refl)) refl ∙ ap (λ (i : ℕ). some (type_at (B ∷ Bs) i)) e
]
