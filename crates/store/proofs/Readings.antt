-- How readings that count cells follow one another.
use Rattle.std.proofs.Common.{◌≡◌, ℕ, zero, suc, ◌+◌, ◌-◌, ◌<◌, ◌≤◌, Bool, true, false, cond, ◌&&◌, eqb, ltb, leb, List, [], ◌∷◌, ◌++◌, length, drop, sym, refl, ap, ◌∙◌, arith, length-drop}
use Rattle.std.proofs.lemmas.Bool.{leb-true}
use Rattle.codec.proofs.Forms.{right}
use Rattle.codec.proofs.Numbers.{numeral_end}
use Rattle.codec.specs.Number.{Numeral, got, ended, overlong, number, Right}
use Rattle.codec.specs.Reading.{Scan, done, refused, then, begun, number_at, within_at, mark_at}
use Rattle.codec.specs.declared.fault.Refusal.{Refusal}
use Rattle.codec.specs.declared.fault.Refusal.TheVariants.{Ended, OutOfRange, CellsLacking}
use Rattle.lfpl.specs.Syntax.{Ty, int, diamond, list_of, tree_of, pair_of, sum_of}
use Rattle.lfpl.specs.Typing.{type_at}
use Rattle.lfpl.specs.Values.{Val, dia, nil, cons, leaf, node, left}
use Rattle.store.specs.Decoding.{Decoder, spend, marked, list_at, tree_at, value_at}
use Rattle.store.specs.Scanning.{values_at, front_at}
use Rattle.tables.specs.Listed.{formed}
use Rattle.tables.specs.declared.listing.Form as F
use Rattle.tables.specs.declared.listing.Form.TheVariants as Form

pub then_assoc : {X Y Z : Type 0} (r : Scan X) (g : X → ℕ → Scan Y) (h : Y → ℕ → Scan Z) → then (then r g) h ≡ then r (λ x p. then (g x p) h)
then_assoc (done x p) g h = refl
then_assoc (refused why q) g h = refl

-- what holds of a reading that is done
abbrev pub When : {X : Type 0} → (X → ℕ → Type 0) → Scan X → Type 0
When P (done x p) = P x p
When P (refused why q) = Unit {0}

pub then_when : {X Y : Type 0} (P : X → ℕ → Type 0) (Q : Y → ℕ → Type 0) (r : Scan X) (k : X → ℕ → Scan Y) → When P r
    → ((x : X) (p : ℕ) → P x p → When Q (k x p)) → When Q (then r k)
then_when P Q (done x p) k h f = f x p h
then_when P Q (refused why q) k h f = tt

pub cond_when : {X : Type 0} (Q : X → ℕ → Type 0) (b : Bool) (r t : Scan X) → (b ≡ true → When Q r) → (b ≡ false → When Q t) → When Q (cond b r t)
cond_when Q true r t h k = h refl
cond_when Q false r t h k = k refl

then_same : {X Y : Type 0} (P : X → ℕ → Type 0) (r : Scan X) (g h : X → ℕ → Scan Y) → When P r → ((x : X) (p : ℕ) → P x p → g x p ≡ h x p) → then r g ≡ then r h
then_same P (done x p) g h w k = k x p w
then_same P (refused why p) g h w k = refl

pub then_eq : {X Y : Type 0} (r : Scan X) (g h : X → ℕ → Scan Y) → ((x : X) (p : ℕ) → g x p ≡ h x p) → then r g ≡ then r h
then_eq (done x p) g h k = k x p
then_eq (refused why p) g h k = refl

then_end : {X Y : Type 0} {why : Refusal} {q : ℕ} (r : Scan X) (g : X → ℕ → Scan Y) → r ≡ refused why q → then r g ≡ refused why q
then_end r g e = ap (λ r. then r g) e

cond_eq : {X : Type 0} (b : Bool) (x y z w : X) → (b ≡ true → x ≡ z) → (b ≡ false → y ≡ w) → cond b x y ≡ cond b z w
cond_eq true x y z w h k = h refl
cond_eq false x y z w h k = k refl

-- the types of a value's parts, by the form of its own
abbrev pub part_types : List Ty → F.Form → Bool → List Ty
part_types ts Form.Number more = []
part_types ts Form.Diamond more = []
part_types ts (Form.List a) true = type_at ts a ∷ list_of (type_at ts a) ∷ []
part_types ts (Form.List a) false = []
part_types ts (Form.Tree a) true = type_at ts a ∷ tree_of (type_at ts a) ∷ tree_of (type_at ts a) ∷ []
part_types ts (Form.Tree a) false = type_at ts a ∷ []
part_types ts (Form.Pair a b) more = type_at ts a ∷ type_at ts b ∷ []
part_types ts (Form.Sum a b) true = type_at ts b ∷ []
part_types ts (Form.Sum a b) false = type_at ts a ∷ []

-- ---- numbers and marks go on

abbrev pub Ahead : List ℕ → ℕ → ℕ → Type 0
Ahead bs p q = (p < q) × (p < length bs)

number_ahead' : (bs : List ℕ) (p : ℕ) (r : Numeral) → Right 4 (drop p bs) r → When (λ c q. Ahead bs p q) (begun r p)
number_ahead' bs p (got v n) w = (omega (arith, w.0.some), omega (arith, w.0.some, w.0.there, length-drop p bs))
number_ahead' bs p ended w = tt
number_ahead' bs p overlong w = tt

pub number_ahead : (bs : List ℕ) (p : ℕ) → When (λ c q. Ahead bs p q) (number_at bs p)
unfolding number_at
number_ahead bs p = number_ahead' bs p (number (drop p bs)) (right 4 (drop p bs))

pub mark_ahead : (bs : List ℕ) (p : ℕ) → When (λ c q. Ahead bs p q) (mark_at bs p)
unfolding mark_at within_at
mark_ahead bs p =
    let A : ℕ → ℕ → Type 0 = λ c q. Ahead bs p q in
    then_when A (λ c q. Ahead bs p q) (within_at 0 2 bs p) _
    (then_when A A (number_at bs p) _ (number_ahead bs p) (λ c q h. cond_when A (leb 0 c && ltb c 2) (done c q) (refused OutOfRange p) (λ _. h) (λ _. tt)))
    (λ c q h. h)

mark_end : (bs : List ℕ) (p : ℕ) → length bs ≤ p → mark_at bs p ≡ refused Ended p
unfolding mark_at within_at number_at
mark_end bs p h = ap (λ (n : Numeral). then (then (begun n p) (λ v q. cond (leb 0 v && ltb v 2) (done v q) (refused OutOfRange p))) (λ v q. done (eqb v 1) q)) (numeral_end 4 bs p h)

-- a mark that was read, with the cells that come with it
abbrev pub Opened : List ℕ → ℕ → ℕ → ℕ → Bool × ℕ → ℕ → Type 0
Opened bs n s p r q = (p < q) × (p < length bs) × (r.1 + cond r.0 n 0 ≡ s)

pub marked_when : (n s : ℕ) (bs : List ℕ) (p : ℕ) → When (Opened bs n s p) (marked n s bs p)
marked_when n s bs p =
    then_when (λ c q. Ahead bs p q) (Opened bs n s p) (mark_at bs p) _ (mark_ahead bs p) (λ more q h.
    cond_when (Opened bs n s p) more (spend n p true s q) (done (false, s) q)
    (λ e. cond_when (Opened bs n s p) (leb n s) (done (true, s - n) q) (refused CellsLacking p) (λ k. (h.0, h.1, omega (arith, leb-true n s k))) (λ k. tt))
    (λ e. (h.0, h.1, omega arith)))

marked_end : (n s : ℕ) (bs : List ℕ) (p : ℕ) → length bs ≤ p → marked n s bs p ≡ refused Ended p
marked_end n s bs p h = ap (λ r. then r (λ more q. cond more (spend n p true s q) (done (false, s) q))) (mark_end bs p h)

-- ---- a reading never goes back, so as many marks as there are bytes are enough

abbrev On : {X : Type 0} → ℕ → X → ℕ → Type 0
On p r q = p ≤ q

module _ (bs : List ℕ) where
  abbrev GoesOn : Decoder Val → Type 0
  GoesOn d = (s p : ℕ) → When (On p) (d s bs p)

  list_on : (d : Decoder Val) → GoesOn d → (k : ℕ) → GoesOn (list_at d k)
  unfolding list_at
  list_on d g zero s p = tt
  list_on d g (suc k) s p =
      then_when (Opened bs 1 s p) (On p) (marked 1 s bs p) _ (marked_when 1 s bs p) (λ r q h.
      cond_when (On p) r.0 _ _
      (λ _. then_when (On q) (On p) (d r.1 bs q) _ (g r.1 q) (λ x q₂ h₂.
      then_when (On q₂) (On p) (list_at d k x.1 bs q₂) _ (list_on d g k x.1 q₂) (λ y q₃ h₃. omega (arith, h.0, h₂, h₃))))
      (λ _. omega (arith, h.0)))

  list_fuel : (d : Decoder Val) → GoesOn d → (k j s p : ℕ) → length bs ≤ p + k → length bs ≤ p + j → list_at d k s bs p ≡ list_at d j s bs p
  unfolding list_at
  list_fuel d g zero zero s p a b = refl
  list_fuel d g zero (suc j) s p a b = sym (then_end (marked 1 s bs p) _ (marked_end 1 s bs p (omega arith)))
  list_fuel d g (suc k) zero s p a b = then_end (marked 1 s bs p) _ (marked_end 1 s bs p (omega arith))
  list_fuel d g (suc k) (suc j) s p a b =
      then_same (Opened bs 1 s p) (marked 1 s bs p) _ _ (marked_when 1 s bs p) (λ r q h.
      cond_eq r.0 _ _ _ _
      (λ _. then_same (On q) (d r.1 bs q) _ _ (g r.1 q) (λ x q₂ h₂.
      ap (λ (y : Scan (Val × ℕ)). then y (λ y q₃. done (cons x.0 y.0, y.1) q₃)) (list_fuel d g k j x.1 q₂ (omega (arith, h.0, h₂)) (omega (arith, h.0, h₂)))))
      (λ _. refl))

  tree_on : (d : Decoder Val) → GoesOn d → (k : ℕ) → GoesOn (tree_at d k)
  unfolding tree_at
  tree_on d g zero s p = tt
  tree_on d g (suc k) s p =
      then_when (Opened bs 2 s p) (On p) (marked 2 s bs p) _ (marked_when 2 s bs p) (λ r q h.
      then_when (On q) (On p) (d r.1 bs q) _ (g r.1 q) (λ x q₂ h₂.
      cond_when (On p) r.0 _ _
      (λ _. then_when (On q₂) (On p) (tree_at d k x.1 bs q₂) _ (tree_on d g k x.1 q₂) (λ l q₃ h₃.
      then_when (On q₃) (On p) (tree_at d k l.1 bs q₃) _ (tree_on d g k l.1 q₃) (λ y q₄ h₄. omega (arith, h.0, h₂, h₃, h₄))))
      (λ _. omega (arith, h.0, h₂))))

  tree_fuel : (d : Decoder Val) → GoesOn d → (k j s p : ℕ) → length bs ≤ p + k → length bs ≤ p + j → tree_at d k s bs p ≡ tree_at d j s bs p
  unfolding tree_at
  tree_fuel d g zero zero s p a b = refl
  tree_fuel d g zero (suc j) s p a b = sym (then_end (marked 2 s bs p) _ (marked_end 2 s bs p (omega arith)))
  tree_fuel d g (suc k) zero s p a b = then_end (marked 2 s bs p) _ (marked_end 2 s bs p (omega arith))
  tree_fuel d g (suc k) (suc j) s p a b =
      then_same (Opened bs 2 s p) (marked 2 s bs p) _ _ (marked_when 2 s bs p) (λ r q h.
      then_same (On q) (d r.1 bs q) _ _ (g r.1 q) (λ x q₂ h₂.
      cond_eq r.0 _ _ _ _
      (λ _. ap (λ (y : Scan (Val × ℕ)). then y (λ l q₃. then (tree_at d k l.1 bs q₃) (λ y q₄. done (node x.0 l.0 y.0, y.1) q₄))) (tree_fuel d g k j x.1 q₂ (omega (arith, h.0, h₂)) (omega (arith, h.0, h₂)))
      ∙ then_same (On q₂) (tree_at d j x.1 bs q₂) _ _ (tree_on d g j x.1 q₂) (λ l q₃ h₃.
      ap (λ (y : Scan (Val × ℕ)). then y (λ y q₄. done (node x.0 l.0 y.0, y.1) q₄)) (tree_fuel d g k j l.1 q₃ (omega (arith, h.0, h₂, h₃)) (omega (arith, h.0, h₂, h₃)))))
      (λ _. refl)))

  value_on : (A : Ty) → GoesOn (value_at A)
  unfolding value_at
  value_on int s p = then_when (λ c q. Ahead bs p q) (On p) (number_at bs p) _ (number_ahead bs p) (λ c q h. omega (arith, h.0))
  value_on diamond s p = cond_when (On p) (leb 1 s) (done (dia, s - 1) p) (refused CellsLacking p) (λ _. omega arith) (λ _. tt)
  value_on (list_of A) s p = list_on (value_at A) (value_on A) (length bs) s p
  value_on (tree_of A) s p = tree_on (value_at A) (value_on A) (length bs) s p
  value_on (pair_of A B) s p =
      then_when (On p) (On p) (value_at A s bs p) _ (value_on A s p) (λ x q h.
      then_when (On q) (On p) (value_at B x.1 bs q) _ (value_on B x.1 q) (λ y q₂ h₂. omega (arith, h, h₂)))
  value_on (sum_of A B) s p =
      then_when (Opened bs 0 s p) (On p) (marked 0 s bs p) _ (marked_when 0 s bs p) (λ r q h.
      cond_when (On p) r.0 _ _
      (λ _. then_when (On q) (On p) (value_at B r.1 bs q) _ (value_on B r.1 q) (λ x q₂ h₂. omega (arith, h.0, h₂)))
      (λ _. then_when (On q) (On p) (value_at A r.1 bs q) _ (value_on A r.1 q) (λ x q₂ h₂. omega (arith, h.0, h₂))))

  -- a list and a tree, read by one mark more
  pub value_list : (A : Ty) (s p : ℕ) → value_at (list_of A) s bs p ≡ list_at (value_at A) (suc (length bs)) s bs p
  unfolding value_at
  value_list A s p = list_fuel (value_at A) (value_on A) (length bs) (suc (length bs)) s p (omega arith) (omega arith)

  pub value_tree : (A : Ty) (s p : ℕ) → value_at (tree_of A) s bs p ≡ tree_at (value_at A) (suc (length bs)) s bs p
  unfolding value_at
  value_tree A s p = tree_fuel (value_at A) (value_on A) (length bs) (suc (length bs)) s p (omega arith) (omega arith)

  -- ---- a value is read by its front and its parts

  spend_as : {X Y Z : Type 0} (n q s p : ℕ) (x : X) (y : Y) (g : X × ℕ → ℕ → Scan Z) (h : Y × ℕ → ℕ → Scan Z) → g (x, s - n) p ≡ h (y, s - n) p
      → then (spend n q x s p) g ≡ then (spend n q y s p) h
  spend_as n q s p x y g h e = go (leb n s)
    where
      go : (b : Bool) → then (cond b (done (x, s - n) p) (refused CellsLacking q)) g ≡ then (cond b (done (y, s - n) p) (refused CellsLacking q)) h
      go true = e
      go false = refl

  -- a value that was read
  abbrev made : Val → ℕ → ℕ → Scan (Val × ℕ)
  made v s q = done (v, s) q

  pub by_parts : (ts : List Ty) (f : F.Form) (As : List Ty) (s p : ℕ) → values_at (formed ts f ∷ As) s bs p
      ≡ then (front_at f s bs p) (λ r q. values_at (part_types ts f r.0 ++ As) r.1 bs q)
  unfolding value_at values_at list_at tree_at
  by_parts ts Form.Number As s p = then_assoc (number_at bs p) _ _ ∙ sym (then_assoc (number_at bs p) _ _)
  by_parts ts Form.Diamond As s p = spend_as 1 p s p dia false _ _ refl
  by_parts ts (Form.List a) As s p =
      ap (λ (r : Scan (Val × ℕ)). then r (λ x q. values_at As x.1 bs q)) (value_list (type_at ts a) s p)
      ∙ then_assoc (marked 1 s bs p) _ _ ∙ then_eq (marked 1 s bs p) _ _ (λ r q. go r.0 r.1 q)
    where
      go : (b : Bool) (s q : ℕ)
          → then (cond b (then (value_at (type_at ts a) s bs q) (λ x q₂. then (list_at (value_at (type_at ts a)) (length bs) x.1 bs q₂) (λ y q₃. made (cons x.0 y.0) y.1 q₃))) (made nil s q)) (λ x q. values_at As x.1 bs q)
          ≡ values_at (part_types ts (Form.List a) b ++ As) s bs q
      go true s q = then_assoc (value_at (type_at ts a) s bs q) _ _ ∙ then_eq (value_at (type_at ts a) s bs q) _ _ (λ x q₂. then_assoc (list_at (value_at (type_at ts a)) (length bs) x.1 bs q₂) _ _)
      go false s q = refl
  by_parts ts (Form.Tree a) As s p =
      ap (λ (r : Scan (Val × ℕ)). then r (λ x q. values_at As x.1 bs q)) (value_tree (type_at ts a) s p)
      ∙ then_assoc (marked 2 s bs p) _ _ ∙ then_eq (marked 2 s bs p) _ _ (λ r q. then_assoc (value_at (type_at ts a) r.1 bs q) _ _ ∙ go r.0 r.1 q)
    where
      go : (b : Bool) (s q : ℕ)
          → then (value_at (type_at ts a) s bs q) (λ x q₂. then (cond b (then (tree_at (value_at (type_at ts a)) (length bs) x.1 bs q₂) (λ l q₃.
          then (tree_at (value_at (type_at ts a)) (length bs) l.1 bs q₃) (λ y q₄. made (node x.0 l.0 y.0) y.1 q₄))) (made (leaf x.0) x.1 q₂)) (λ x q. values_at As x.1 bs q))
          ≡ values_at (part_types ts (Form.Tree a) b ++ As) s bs q
      go true s q = then_eq (value_at (type_at ts a) s bs q) _ _ (λ x q₂.
          then_assoc (tree_at (value_at (type_at ts a)) (length bs) x.1 bs q₂) _ _ ∙ then_eq (tree_at (value_at (type_at ts a)) (length bs) x.1 bs q₂) _ _ (λ l q₃. then_assoc (tree_at (value_at (type_at ts a)) (length bs) l.1 bs q₃) _ _))
      go false s q = refl
  by_parts ts (Form.Pair a c) As s p = then_assoc (value_at (type_at ts a) s bs p) _ _ ∙ then_eq (value_at (type_at ts a) s bs p) _ _ (λ x q. then_assoc (value_at (type_at ts c) x.1 bs q) _ _)
  by_parts ts (Form.Sum a c) As s p = then_assoc (marked 0 s bs p) _ _ ∙ then_eq (marked 0 s bs p) _ _ (λ r q. go r.0 r.1 q)
    where
      go : (b : Bool) (s q : ℕ)
          → then (cond b (then (value_at (type_at ts c) s bs q) (λ y q₂. made (Rattle.lfpl.specs.Values.right y.0) y.1 q₂)) (then (value_at (type_at ts a) s bs q) (λ x q₂. made (left x.0) x.1 q₂))) (λ x q. values_at As x.1 bs q)
          ≡ values_at (part_types ts (Form.Sum a c) b ++ As) s bs q
      go true s q = then_assoc (value_at (type_at ts c) s bs q) _ _
      go false s q = then_assoc (value_at (type_at ts a) s bs q) _ _
