-- Entries list types in one way at most, so that they do is known where it is known to be possible.
use Rattle.std.proofs.Common.{◌≡◌, ℕ, zero, suc, ◌<◌, List, length, sym, refl, ap, ◌∙◌, ap₂, arith}
use native.Mathlib.Bridge.{le_prop}
use native.Mathlib.Nat.{ℕ_set}
use mathlib.Core.Bool.{Bool-set}
use mathlib.Core.HLevel.{hedberg, Π_prop, Σ_prop_path}
use mathlib.Core.Logic.{∥∥₁_elim}
use Rattle.std.proofs.lemmas.List.{ext_get_or}
use Rattle.lfpl.specs.Syntax.{Ty, int, list_of, tree_of, pair_of, sum_of, Ty-discrete}
use Rattle.lfpl.specs.Typing.{type_at}
use Rattle.tables.specs.Listed.{Below, formed, entry_of, Lists, Types}
use Rattle.tables.specs.declared.listing.Entry.{Entry}
use Rattle.tables.specs.declared.listing.Form as F
use Rattle.tables.specs.declared.listing.Form.TheVariants as Form
use Rattle.store.specs.Scanning.{Listed}

ty_set : IsSet Ty
ty_set = hedberg Ty-discrete

-- a form makes one type of lists that are the same below its references
formed_same : (f : F.Form) (n : ℕ) (ts us : List Ty) → Below n f → ((i : ℕ) → i < n → type_at ts i ≡ type_at us i) → formed ts f ≡ formed us f
formed_same Form.Number n ts us r h = refl
formed_same Form.Diamond n ts us r h = refl
formed_same (Form.List a) n ts us r h = ap list_of (h a r)
formed_same (Form.Tree a) n ts us r h = ap tree_of (h a r)
formed_same (Form.Pair a b) n ts us r h = ap₂ pair_of (h a r.0) (h b r.1)
formed_same (Form.Sum a b) n ts us r h = ap₂ sum_of (h a r.0) (h b r.1)

-- and refers in one way at most
below_prop : (n : ℕ) (f : F.Form) → IsProp (Below n f)
below_prop n Form.Number x y = refl
below_prop n Form.Diamond x y = refl
below_prop n (Form.List a) x y = le_prop x y
below_prop n (Form.Tree a) x y = le_prop x y
below_prop n (Form.Pair a b) x y = ap₂ (λ p q. (p, q)) (le_prop x.0 y.0) (le_prop x.1 y.1)
below_prop n (Form.Sum a b) x y = ap₂ (λ p q. (p, q)) (le_prop x.0 y.0) (le_prop x.1 y.1)

same_at : (es : List Entry) (ts us : List Ty) → Types es ts → Types es us → (n i : ℕ) → i < n → i < length ts → type_at ts i ≡ type_at us i
same_at es ts us a b zero i l h = absurd (omega arith)
same_at es ts us a b (suc n) i l h =
    let h' : i < length us = omega (arith, a.long, b.long) in
    let x = a.lists i h in
    let y = b.lists i h' in
    x.type ∙ formed_same (entry_of es i).form i ts us x.refers (λ k m. same_at es ts us a b n k (omega arith) (omega arith)) ∙ sym y.type

same_types : (es : List Entry) (ts us : List Ty) → Types es ts → Types es us → ts ≡ us
same_types es ts us a b =
    ext_get_or int ts us (sym a.long ∙ b.long) (λ i h. same_at es ts us a b (suc i) i (omega arith) h)

lists_prop : (ts : List Ty) (i : ℕ) (e : Entry) → IsProp (Lists ts i e)
lists_prop ts i e x y j =
    record {
      refers = below_prop i e.form x.refers y.refers j;
      type = ty_set _ _ x.type y.type j;
      width = ℕ_set _ _ x.width y.width j;
      free = Bool-set _ _ x.free y.free j;
    }

types_prop : (es : List Entry) (ts : List Ty) → IsProp (Types es ts)
types_prop es ts x y j =
    record {
      long = ℕ_set _ _ x.long y.long j;
      lists = Π_prop (λ i. Π_prop (λ _. lists_prop ts i (entry_of es i))) x.lists y.lists j;
      distinct = Π_prop (λ i. Π_prop (λ k. Π_prop (λ _. Π_prop (λ _. Π_prop (λ _. ℕ_set i k))))) x.distinct y.distinct j;
      narrow = Π_prop (λ i. Π_prop (λ _. le_prop)) x.narrow y.narrow j;
      roomy = Π_prop (λ i. Π_prop (λ _. Bool-set _ _)) x.roomy y.roomy j;
    }

pub listed : (es : List Entry) → ∥ Listed es ∥₁ → Listed es
listed es h = ∥∥₁_elim h (λ x y. Σ_prop_path (types_prop es) (same_types es x.0 y.0 x.1 y.1)) (λ x. x)
