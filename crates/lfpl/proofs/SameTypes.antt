-- The tests that compare types answer true exactly at equal types.
use Rattle.std.proofs.Common.{◌≡◌, true, List, [], ◌∷◌, refl, ap₂}
use mathlib.Core.Bool.{false≢true}
use Rattle.std.proofs.lemmas.Bool.{and_parts, and_from}
use Rattle.lfpl.specs.Syntax.{Ty, decided, same_ty, Ty-discrete}
use Rattle.lfpl.specs.Typing.{same_tys}

decided_true : {P : Type 0} (d : Dec P) → decided d ≡ true → P
decided_true (yes p) h = p
decided_true (no p) h = absurd (false≢true h)

true_decided : {P : Type 0} (d : Dec P) → P → decided d ≡ true
true_decided (yes p) h = refl
true_decided (no p) h = absurd (p h)

pub same_eq : (A B : Ty) → same_ty A B ≡ true → A ≡ B
same_eq A B h = decided_true (Ty-discrete A B) h

pub same_refl : (A : Ty) → same_ty A A ≡ true
same_refl A = true_decided (Ty-discrete A A) refl

pub sames_eq : (As Bs : List Ty) → same_tys As Bs ≡ true → As ≡ Bs
sames_eq [] [] h = refl
sames_eq [] (B ∷ Bs) h = absurd (false≢true h)
sames_eq (A ∷ As) [] h = absurd (false≢true h)
sames_eq (A ∷ As) (B ∷ Bs) h =
    let q = and_parts (same_ty A B) (same_tys As Bs) h in
    ap₂ (λ (x : Ty) (l : List Ty). x ∷ l) (same_eq A B q.0) (sames_eq As Bs q.1)

pub sames_refl : (As : List Ty) → same_tys As As ≡ true
sames_refl [] = refl
sames_refl (A ∷ As) = and_from (same_ty A A) (same_tys As As) (same_refl A) (sames_refl As)
