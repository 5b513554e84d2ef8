-- The steps of reading signatures.
use Rattle.std.proofs.Common.{◌≡◌, ℕ, ◌+◌, ◌<◌, ◌≤◌, List, [], ◌∷◌, ◌++◌, map, length, take, set, sym, refl, ap, ◌∙◌, subst, ap₂, arith, length-take}
use lib.ListN.{length-map}
use Rattle.std.proofs.lemmas.List.{take_more_set}
use Rattle.codec.specs.Reading.{Scan, then, within_at, many_at}
use Rattle.codec.proofs.Takings.{all}
use Rattle.lfpl.specs.Syntax.{Ty}
use Rattle.lfpl.specs.Typing.{type_at}
use Rattle.lfpl.specs.Reading.{◌>>=◌, Reader, pure, below, type_ref, Signature as TypeOf, signature_at, signatures_at, arity}
use Rattle.tables.specs.Inner.{parameters_at, Numbered, Few}
use Rattle.tables.specs.Listed.{Numbers, Signs, AllSign}
use Rattle.tables.specs.declared.listing.Signature.{Signature}
use Rattle.tables.proofs.Givings.{then_assoc}

-- ---- parameters

abbrev pub type_each : List Ty → List ℕ → List Ty → ℕ → Scan Ty
type_each ts bs As q = type_ref ts bs q

numbered_push : (ts : List Ty) (ns : List ℕ) (As : List Ty) (j : ℕ) → Numbered ts ns As → j < length ts → Numbered ts (ns ++ j ∷ []) (As ++ type_at ts j ∷ [])
numbered_push ts ns As j k h = (all_below ns k.0, ap (λ l. l ++ type_at ts j ∷ []) k.1 ∙ sym (map_push ns))
  where
    all_below : (ns : List ℕ) → Numbers ts ns → Numbers ts (ns ++ j ∷ [])
    all_below [] k = (h, tt)
    all_below (n ∷ ns) k = (k.0, all_below ns k.1)

    map_push : (ns : List ℕ) → map (type_at ts) (ns ++ j ∷ []) ≡ map (type_at ts) ns ++ type_at ts j ∷ []
    map_push [] = refl
    map_push (n ∷ ns) = ap (λ l. type_at ts n ∷ l) (map_push ns)

pub numbered_more : (ts : List Ty) (slots : List ℕ) (i : ℕ) (As : List Ty) (j : ℕ) → i < length slots → Numbered ts (take i slots) As → j < length ts
    → Numbered ts (take (i + 1) (set slots i j)) (As ++ type_at ts j ∷ [])
numbered_more ts slots i As j l k h = subst (λ ns. Numbered ts ns (As ++ type_at ts j ∷ [])) (sym (take_more_set slots i j l)) (numbered_push ts (take i slots) As j k h)

-- ---- a signature

-- after the parameters' types
abbrev pub result_at : List Ty → List Ty → Reader TypeOf
result_at ts As = do
  B ← type_ref ts
  pure (record { params = As; result = B })

pub signature_is : (ts : List Ty) (bs : List ℕ) (p : ℕ) → signature_at ts bs p ≡ then (parameters_at ts bs p) (λ As q. result_at ts As bs q)
unfolding signature_at
signature_is ts bs p = sym (then_assoc (below 7 bs p) (λ n q. many_at (type_each ts bs) n [] q) (λ As q. result_at ts As bs q))

-- ---- all signatures

abbrev pub signature_each : List Ty → List ℕ → List TypeOf → ℕ → Scan TypeOf
signature_each ts bs ss q = signature_at ts bs q

pub signatures_is : (ts : List Ty) (bs : List ℕ) (p : ℕ) → signatures_at ts bs p ≡ then (within_at 1 33 bs p) (λ n q. all (signature_each ts) n bs q)
unfolding signatures_at
signatures_is ts bs p = refl

sign_push : (ts : List Ty) (fs : List Signature) (ss : List TypeOf) (f : Signature) (s : TypeOf) → AllSign ts fs ss → Signs ts f s → AllSign ts (fs ++ f ∷ []) (ss ++ s ∷ [])
sign_push ts [] [] f s a b = (b, tt)
sign_push ts [] (t ∷ ss) f s a b = absurd a
sign_push ts (g ∷ fs) [] f s a b = absurd a
sign_push ts (g ∷ fs) (t ∷ ss) f s a b = (a.0, sign_push ts fs ss f s a.1 b)

pub sign_more : (ts : List Ty) (slots : List Signature) (i : ℕ) (ss : List TypeOf) (f : Signature) (s : TypeOf) → i < length slots → AllSign ts (take i slots) ss → Signs ts f s
    → AllSign ts (take (i + 1) (set slots i f)) (ss ++ s ∷ [])
sign_more ts slots i ss f s l a b = subst (λ fs. AllSign ts fs (ss ++ s ∷ [])) (sym (take_more_set slots i f l)) (sign_push ts (take i slots) ss f s a b)

few_push : (fs : List Signature) (f : Signature) → Few fs → f.arity ≤ 6 → Few (fs ++ f ∷ [])
few_push [] f s h = (h, tt)
few_push (g ∷ fs) f s h = (s.0, few_push fs f s.1 h)

pub few_more : (slots : List Signature) (i : ℕ) (f : Signature) → i < length slots → Few (take i slots) → f.arity ≤ 6 → Few (take (i + 1) (set slots i f))
few_more slots i f l s h = subst Few (sym (take_more_set slots i f l)) (few_push (take i slots) f s h)

-- how many parameters each has
pub arities_are : (ts : List Ty) (fs : List Signature) (ss : List TypeOf) → AllSign ts fs ss → map arity ss ≡ map (λ (f : Signature). f.arity) fs
arities_are ts [] [] a = refl
arities_are ts [] (s ∷ ss) a = absurd a
arities_are ts (f ∷ fs) [] a = absurd a
arities_are ts (f ∷ fs) (s ∷ ss) a =
    let g = a.0 in
    let l = ap length g.params ∙ length-map (take f.arity f.params) (type_at ts) in
    ap₂ (λ (n : ℕ) (l : List ℕ). n ∷ l) (omega (arith, l, length-take f.arity f.params, g.few, g.full)) (arities_are ts fs ss a.1)
