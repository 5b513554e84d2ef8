-- What an entry of a table says of its type.
use Rattle.std.proofs.Common.{◌≡◌, ℕ, ◌+◌, ◌<◌, ◌≤◌, max, true, List, length, sym, ap, ◌∙◌, subst, arith}
use Rattle.std.proofs.lemmas.Bool.{leb-true}
use Rattle.lfpl.specs.Reading.{roomy}
use Rattle.lfpl.specs.Syntax.{Ty, int, diamond, list_of, tree_of, pair_of, sum_of, width}
use Rattle.lfpl.specs.Typing.{type_at}
use Rattle.tables.specs.Listed.{Below, Lists, Types, entry_of, formed}
use Rattle.tables.specs.declared.listing.Entry.{Entry}
use Rattle.tables.specs.declared.listing.Form as F
use Rattle.tables.specs.declared.listing.Form.TheVariants as Form

pub width_pos : (A : Ty) → 1 ≤ width A
width_pos int = omega arith
width_pos diamond = omega arith
width_pos (list_of A) = omega arith
width_pos (tree_of A) = omega arith
width_pos (pair_of A B) = omega (arith, width_pos A)
width_pos (sum_of A B) = omega arith

-- which entries the entry with the number t refers to where it has the form, and their widths
abbrev pub Refers : List Entry → ℕ → F.Form → Type 0
Refers es t Form.Number = (entry_of es t).width ≡ 1
Refers es t Form.Diamond = (entry_of es t).width ≡ 1
Refers es t (Form.List a) = (a < t) × ((entry_of es t).width ≡ 1) × ((entry_of es a).width ≤ 15)
Refers es t (Form.Tree a) = (a < t) × ((entry_of es t).width ≡ 3 + (entry_of es a).width)
Refers es t (Form.Pair a b) = (a < t) × (b < t) × ((entry_of es t).width ≡ (entry_of es a).width + (entry_of es b).width)
Refers es t (Form.Sum a b) = (a < t) × (b < t) × ((entry_of es t).width ≡ 1 + max (entry_of es a).width (entry_of es b).width)

module _ (es : List Entry) (ts : List Ty) (T : Types es ts) where
  pub width_is : (i : ℕ) → i < length es → (entry_of es i).width ≡ width (type_at ts i)
  width_is i h = (T.lists i (omega (arith, T.long))).width

  pub wide_some : (i : ℕ) → i < length es → 1 ≤ (entry_of es i).width
  wide_some i h = omega (arith, width_is i h, width_pos (type_at ts i))

  pub wide_most : (i : ℕ) → i < length es → (entry_of es i).width ≤ 16
  wide_most i h = omega (arith, width_is i h, T.narrow i (omega (arith, T.long)))

  module _ (t : ℕ) (h : t < length es) (e : Entry) (is : e ≡ entry_of es t) where
    lists : Lists ts t e
    lists = subst (Lists ts t) (sym is) (T.lists t (omega (arith, T.long)))

    -- the type, by the entry's form
    pub typed : (f : F.Form) → e.form ≡ f → type_at ts t ≡ formed ts f
    typed f k = lists.type ∙ ap (formed ts) k

    pub refers : (f : F.Form) → e.form ≡ f → Refers es t f
    refers f k = go f (subst (Below t) k lists.refers) (width_is t h ∙ ap width (typed f k)) (ap roomy (sym (typed f k)) ∙ T.roomy t (omega (arith, T.long)))
      where
        go : (f : F.Form) → Below t f → (entry_of es t).width ≡ width (formed ts f) → roomy (formed ts f) ≡ true → Refers es t f
        go Form.Number b w r = w
        go Form.Diamond b w r = w
        go (Form.List x) b w r = (b, w, omega (arith, leb-true (width (type_at ts x)) 15 r, width_is x (omega arith)))
        go (Form.Tree x) b w r = (b, omega (arith, w, width_is x (omega arith)))
        go (Form.Pair x y) b w r = (b.0, b.1, omega (arith, w, width_is x (omega arith), width_is y (omega arith)))
        go (Form.Sum x y) b w r = (b.0, b.1, omega (arith, w, width_is x (omega arith), width_is y (omega arith)))
