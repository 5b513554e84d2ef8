-- What is known of one of a table's types: the shape that its entry gives it, and the widths.
use Rattle.std.proofs.Common.{◌≡◌, ℕ, ◌+◌, ◌<◌, ◌≤◌, max, Bool, true, false, cond, List, sym, refl, ap, ◌∙◌, subst, arith}
use native.Mathlib.Bridge.{le_prop}
use native.Mathlib.Nat.{ℕ_set}
use mathlib.Core.Logic.{∥∥₁_elim}
use Rattle.lfpl.specs.Syntax.{Ty, width}
use Rattle.lfpl.specs.Typing.{type_at}
use Rattle.tables.specs.Listed.{Types, entry_of, formed}
use Rattle.tables.specs.declared.listing.Entry.{Entry}
use Rattle.tables.specs.declared.listing.Form as F
use Rattle.tables.specs.declared.listing.Form.TheVariants as Form
use Rattle.store.specs.Kinds.{Is, Shaped, wide}
use Rattle.store.specs.declared.entries.Kind.{Kind}
use Rattle.store.specs.declared.entries.Shape.TheVariants as Shape
use Rattle.store.proofs.Refers.{Refers, refers, typed, wide_some, wide_most, width_is}

-- the types that a table lists are kinds
pub is_listed : (k : Kind) (es : List Entry) (t : ℕ) (ts : List Ty) → k.entries.now ≡ es → k.number ≡ t → Types es ts → Is k (type_at ts t)
is_listed k es t ts e n T = record { types = ts; listed = subst (λ es. Types es ts) (sym e) T; type = ap (type_at ts) (sym n) }

pub wide_is : (k : Kind) (A : Ty) → Is k A → wide k ≡ width A
wide_is k A x = width_is k.entries.now x.types x.listed k.number k.known ∙ ap width (sym x.type)

pub wide_pos : (k : Kind) → 1 ≤ wide k
wide_pos k = ∥∥₁_elim k.listed le_prop (λ L. wide_some k.entries.now L.0 L.1 k.number k.known)

-- a value has a word, so its first one is there
pub first_word : (k : Kind) (o n : ℕ) → n ≡ 16 → o + wide k ≤ 16 → o < n
first_word k o n e h = omega (arith, wide_pos k)

pub narrow : (k : Kind) → wide k ≤ 16
narrow k = ∥∥₁_elim k.listed le_prop (λ L. wide_most k.entries.now L.0 L.1 k.number k.known)

pub side_wide : (a b p : Kind) (c : Bool) → p ≡ cond c a b → wide p ≤ max (wide a) (wide b)
side_wide a b p true e = omega (arith, ap wide e)
side_wide a b p false e = omega (arith, ap wide e)

-- what an entry says of its references is one fact
refers_prop : (es : List Entry) (t : ℕ) (f : F.Form) → IsProp (Refers es t f)
refers_prop es t Form.Number = ℕ_set _ _
refers_prop es t Form.Diamond = ℕ_set _ _
refers_prop es t (Form.List a) = hlevel (le_prop, ℕ_set)
refers_prop es t (Form.Tree a) = hlevel (le_prop, ℕ_set)
refers_prop es t (Form.Pair a b) = hlevel (le_prop, ℕ_set)
refers_prop es t (Form.Sum a b) = hlevel (le_prop, ℕ_set)

module _ (k : Kind) (f : F.Form) (form : (entry_of k.entries.now k.number).form ≡ f) where
  kind_refers : Refers k.entries.now k.number f
  kind_refers = ∥∥₁_elim k.listed (refers_prop k.entries.now k.number f) (λ L. refers k.entries.now L.0 L.1 k.number k.known (entry_of k.entries.now k.number) refl f form)

  kind_formed : (A : Ty) (x : Is k A) → A ≡ formed x.types f
  kind_formed A x = x.type ∙ typed k.entries.now x.types x.listed k.number k.known (entry_of k.entries.now k.number) refl f form

-- an earlier type of the same table
earlier_is : (k a : Kind) (A : Ty) (x : Is k A) → a.entries.now ≡ k.entries.now → Is a (type_at x.types a.number)
earlier_is k a A x e = is_listed a k.entries.now a.number x.types e refl x.listed

earlier_wide : (k a : Kind) → a.entries.now ≡ k.entries.now → wide a ≡ (entry_of k.entries.now a.number).width
earlier_wide k a e = ap (λ es. (entry_of es a.number).width) e

module _ (k a : Kind) (e : a.entries.now ≡ k.entries.now) where
  pub shaped_list : (entry_of k.entries.now k.number).form ≡ Form.List a.number → Shaped k (Shape.List a)
  shaped_list i =
      let r = kind_refers k (Form.List a.number) i in
      (r.0, r.1, omega (arith, earlier_wide k a e, r.2), λ A x. (type_at x.types a.number, earlier_is k a A x e, kind_formed k (Form.List a.number) i A x))

  pub shaped_tree : (entry_of k.entries.now k.number).form ≡ Form.Tree a.number → Shaped k (Shape.Tree a)
  shaped_tree i =
      let r = kind_refers k (Form.Tree a.number) i in
      (r.0, omega (arith, earlier_wide k a e, r.1), λ A x. (type_at x.types a.number, earlier_is k a A x e, kind_formed k (Form.Tree a.number) i A x))

module _ (k a b : Kind) (e : a.entries.now ≡ k.entries.now) (h : b.entries.now ≡ k.entries.now) where
  pub shaped_pair : (entry_of k.entries.now k.number).form ≡ Form.Pair a.number b.number → Shaped k (Shape.Pair a b)
  shaped_pair i =
      let r = kind_refers k (Form.Pair a.number b.number) i in (
        r.0,
        r.1,
        omega (arith, earlier_wide k a e, earlier_wide k b h, r.2),
        λ A x. (type_at x.types a.number, type_at x.types b.number, earlier_is k a A x e, earlier_is k b A x h, kind_formed k (Form.Pair a.number b.number) i A x),
      )

  pub shaped_sum : (entry_of k.entries.now k.number).form ≡ Form.Sum a.number b.number → Shaped k (Shape.Sum a b)
  shaped_sum i =
      let r = kind_refers k (Form.Sum a.number b.number) i in (
        r.0,
        r.1,
        omega (arith, earlier_wide k a e, earlier_wide k b h, r.2),
        λ A x. (type_at x.types a.number, type_at x.types b.number, earlier_is k a A x e, earlier_is k b A x h, kind_formed k (Form.Sum a.number b.number) i A x),
      )

pub side_is : (a b p : Kind) (c : Bool) (B C : Ty) → Is a B → Is b C → p ≡ cond c a b → Is p (cond c B C)
side_is a b p true B C x y e = subst (λ k. Is k B) (sym e) x
side_is a b p false B C x y e = subst (λ k. Is k C) (sym e) y
