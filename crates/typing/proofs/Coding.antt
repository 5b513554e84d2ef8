-- What codes and rows of codes stand for.
use Rattle.std.proofs.Common.{true, ◌≡◌, ℕ, zero, suc, ◌<◌, ◌≤◌, Bool, List, [], ◌∷◌, ◌++◌, length, get_or, sym, refl, ap, ◌∙◌, subst, ap₂, le_of_suc-le-suc, not-suc-le-zero, arith, length-take}
use Rattle.std.specs.Bool.{Decides}
use Rattle.std.proofs.Math.Bool.{and-true}
use Rattle.std.proofs.lemmas.Bool.Decides.{same_from_decides}
use Rattle.std.proofs.lemmas.Bool.{eqb-true, eq-eqb, false≢true}
use Rattle.lfpl.proofs.SameTypes.{same_eq, same_refl, sames_eq, sames_refl}
use Rattle.lfpl.specs.Syntax.{Ty, int, diamond, same_ty}
use Rattle.lfpl.specs.Typing.{type_at, same_tys, alike}
use Rattle.tables.specs.Listed.{Numbers}
use Rattle.tables.specs.declared.listing.Listing.{Listing}
use Rattle.typing.specs.Codes.{Typed, Made, Coded, CodedAll}
use Rattle.typing.specs.contracts.codes.CodePartialEq.TheImpl as equality
use Rattle.typing.specs.declared.codes.Code as C
use Rattle.typing.specs.declared.codes.Code.TheVariants as Code

-- the test of two codes
pub code_eq : (a b : C.Code) → Decides (equality.eq-value.it a b) (a ≡ b)
code_eq Code.Number Code.Number = (λ e. refl, λ e. refl)
code_eq Code.Number Code.Diamond = (λ e. absurd (false≢true e), λ e. absurd (cc))
code_eq Code.Number (Code.Listed j) = (λ e. absurd (false≢true e), λ e. absurd (cc))
code_eq Code.Diamond Code.Number = (λ e. absurd (false≢true e), λ e. absurd (cc))
code_eq Code.Diamond Code.Diamond = (λ e. refl, λ e. refl)
code_eq Code.Diamond (Code.Listed j) = (λ e. absurd (false≢true e), λ e. absurd (cc))
code_eq (Code.Listed i) Code.Number = (λ e. absurd (false≢true e), λ e. absurd (cc))
code_eq (Code.Listed i) Code.Diamond = (λ e. absurd (false≢true e), λ e. absurd (cc))
code_eq (Code.Listed i) (Code.Listed j) = (λ e. ap Code.Listed (eqb-true i j e), λ e. let p : i ≡ j = cc in eq-eqb i j p)

module _ (l : Listing) (ts : List Ty) (t : Typed l ts) where
  pub short : length ts ≤ 64
  short = let p = length-take l.types l.entries in let q = t.types.long in let f = t.few in omega arith

  -- equal codes are of equal types, and equal types have equal codes
  pub same_type : (c : C.Code) (A B : Ty) → Coded ts c A → Coded ts c B → A ≡ B
  same_type Code.Number A B h k = h ∙ sym k
  same_type Code.Diamond A B h k = h ∙ sym k
  same_type (Code.Listed i) A B h k = sym h.1 ∙ k.1

  pub same_code : (A : Ty) (c d : C.Code) → Coded ts c A → Coded ts d A → c ≡ d
  same_code A Code.Number Code.Number h k = refl
  same_code A Code.Number Code.Diamond h k = absurd (let e : int ≡ diamond = sym h ∙ k in cc)
  same_code A Code.Number (Code.Listed j) h k = absurd (subst Made h k.2)
  same_code A Code.Diamond Code.Number h k = absurd (let e : int ≡ diamond = sym k ∙ h in cc)
  same_code A Code.Diamond Code.Diamond h k = refl
  same_code A Code.Diamond (Code.Listed j) h k = absurd (subst Made h k.2)
  same_code A (Code.Listed i) Code.Number h k = absurd (subst Made k h.2)
  same_code A (Code.Listed i) Code.Diamond h k = absurd (subst Made k h.2)
  same_code A (Code.Listed i) (Code.Listed j) h k = ap Code.Listed (t.types.distinct i j h.0 k.0 (h.1 ∙ sym k.1))

  -- types are compared by their codes
  pub codes_tell : (r : Bool) (c d : C.Code) (A B : Ty) → Coded ts c A → Coded ts d B → Decides r (c ≡ d) → r ≡ same_ty A B
  codes_tell r c d A B h k e =
      same_from_decides {P = A ≡ B} r (same_ty A B)
      (λ p. same_type c A B h (subst (λ x. Coded ts x B) (sym (e.0 p)) k), λ p. e.1 (same_code B c d (subst (Coded ts c) p h) k))
      (λ p. same_eq A B p, λ p. rw p (same_refl B))

  pub same_types : (cs : List C.Code) (As Bs : List Ty) → CodedAll ts cs As → CodedAll ts cs Bs → As ≡ Bs
  same_types [] [] [] h k = refl
  same_types [] [] (B ∷ Bs) h k = absurd k
  same_types [] (A ∷ As) Bs h k = absurd h
  same_types (c ∷ cs) [] Bs h k = absurd h
  same_types (c ∷ cs) (A ∷ As) [] h k = absurd k
  same_types (c ∷ cs) (A ∷ As) (B ∷ Bs) h k = ap₂ (λ (X : Ty) (Xs : List Ty). X ∷ Xs) (same_type c A B h.0 k.0) (same_types cs As Bs h.1 k.1)

  pub same_codes : (As : List Ty) (cs ds : List C.Code) → CodedAll ts cs As → CodedAll ts ds As → cs ≡ ds
  same_codes [] [] [] h k = refl
  same_codes [] [] (d ∷ ds) h k = absurd k
  same_codes [] (c ∷ cs) ds h k = absurd h
  same_codes (A ∷ As) [] ds h k = absurd h
  same_codes (A ∷ As) (c ∷ cs) [] h k = absurd k
  same_codes (A ∷ As) (c ∷ cs) (d ∷ ds) h k = ap₂ (λ (x : C.Code) (xs : List C.Code). x ∷ xs) (same_code A c d h.0 k.0) (same_codes As cs ds h.1 k.1)

  -- what a test of codes says of their types
  pub rows_tell : (r : Bool) (cs ds : List C.Code) (As Bs : List Ty) → CodedAll ts cs As → CodedAll ts ds Bs → Decides r (cs ≡ ds) → r ≡ same_tys As Bs
  rows_tell r cs ds As Bs h k d =
      same_from_decides {P = As ≡ Bs} r (same_tys As Bs)
      (λ e. same_types cs As Bs h (subst (λ xs. CodedAll ts xs Bs) (sym (d.0 e)) k), λ e. d.1 (same_codes Bs cs ds (subst (CodedAll ts cs) e h) k))
      (λ e. sames_eq As Bs e, λ e. rw e (sames_refl Bs))

-- one code more
pub coded_push : (ts : List Ty) (cs : List C.Code) (As : List Ty) (c : C.Code) (A : Ty) → CodedAll ts cs As → Coded ts c A → CodedAll ts (cs ++ c ∷ []) (As ++ A ∷ [])
coded_push ts [] [] c A h k = (k, tt)
coded_push ts [] (B ∷ As) c A h k = absurd h
coded_push ts (d ∷ cs) [] c A h k = absurd h
coded_push ts (d ∷ cs) (B ∷ As) c A h k = (h.0, coded_push ts cs As c A h.1 k)

pub coded_length : (ts : List Ty) (cs : List C.Code) (As : List Ty) → CodedAll ts cs As → length cs ≡ length As
coded_length ts [] [] h = refl
coded_length ts [] (A ∷ As) h = absurd h
coded_length ts (c ∷ cs) [] h = absurd h
coded_length ts (c ∷ cs) (A ∷ As) h = ap suc (coded_length ts cs As h.1)

-- the code at a place
pub coded_at : (ts : List Ty) (cs : List C.Code) (As : List Ty) (i : ℕ) (d : C.Code) → CodedAll ts cs As → i < length As → Coded ts (get_or cs i d) (type_at As i)
coded_at ts [] [] i d h k = absurd (not-suc-le-zero k)
coded_at ts [] (A ∷ As) i d h k = absurd h
coded_at ts (c ∷ cs) [] i d h k = absurd h
coded_at ts (c ∷ cs) (A ∷ As) zero d h k = h.0
coded_at ts (c ∷ cs) (A ∷ As) (suc i) d h k = coded_at ts cs As i d h.1 (le_of_suc-le-suc k)

-- the code at a place, and N's past the end
pub coded_or : (ts : List Ty) (cs : List C.Code) (As : List Ty) (i : ℕ) → CodedAll ts cs As → Coded ts (get_or cs i Code.Number) (type_at As i)
coded_or ts [] [] i h = refl
coded_or ts [] (A ∷ As) i h = absurd h
coded_or ts (c ∷ cs) [] i h = absurd h
coded_or ts (c ∷ cs) (A ∷ As) zero h = h.0
coded_or ts (c ∷ cs) (A ∷ As) (suc i) h = coded_or ts cs As i h.1

-- two types are alike where the second is as the first
pub alike_few : (As : List Ty) → length As < 2 → true ≡ alike (type_at As 0) As
alike_few [] h = refl
alike_few (A ∷ []) h = rw (same_refl A) refl
alike_few (A ∷ B ∷ As) h = absurd (omega arith)

pub alike_two : (As : List Ty) → length As ≡ 2 → same_ty (type_at As 0) (type_at As 1) ≡ alike (type_at As 0) As
alike_two [] h = absurd (omega arith)
alike_two (A ∷ []) h = absurd (omega arith)
alike_two (A ∷ B ∷ []) h = rw (same_refl A) (sym (and-true (same_ty A B)))
alike_two (A ∷ B ∷ C ∷ As) h = absurd (omega arith)

-- the numbers of a signature are entries'
pub numbers_at : (ts : List Ty) (xs : List ℕ) (i d : ℕ) → Numbers ts xs → i < length xs → get_or xs i d < length ts
numbers_at ts [] i d h k = absurd (not-suc-le-zero k)
numbers_at ts (x ∷ xs) zero d h k = h.0
numbers_at ts (x ∷ xs) (suc i) d h k = numbers_at ts xs i d h.1 (le_of_suc-le-suc k)
