-- One turn of the scan: a value's front is read, and its parts are stacked.
use Rattle.std.proofs.Common.{◌≡◌, ℕ, ◌+◌, ◌-◌, ◌*◌, ◌<◌, ◌≤◌, Bool, true, false, cond, ltb, leb, List, [], ◌∷◌, ◌++◌, map, length, Ok, Err, sym, refl, ap, ◌∙◌, subst, arith}
use Rattle.std.proofs.lemmas.Bool.{leb-true, lt-ltb, le-ltb}
use Rattle.codec.proofs.Takings.{is_done, is_refused, fault_is}
use Rattle.codec.specs.Reading.{Scan, done, refused, then, number_at}
use Rattle.codec.specs.declared.cursor.Cursor.{Cursor}
use Rattle.codec.specs.declared.fault.Fault.{Fault}
use Rattle.codec.specs.declared.fault.Part.TheVariants.{Value}
use Rattle.codec.specs.declared.fault.Refusal.{Refusal}
use Rattle.codec.specs.declared.fault.Refusal.TheVariants.{BytesOver, CellsLacking}
use Rattle.lfpl.specs.Syntax.{Ty}
use Rattle.lfpl.specs.Typing.{type_at}
use Rattle.lfpl.specs.Values.{Val}
use Rattle.tables.specs.Listed.{Types, entry_of, formed}
use Rattle.tables.specs.declared.listing.Entry.{Entry}
use Rattle.tables.specs.declared.listing.Form as F
use Rattle.tables.specs.declared.listing.Form.TheVariants as Form
use Rattle.store.specs.Decoding.{decode, whole, value_at}
use Rattle.store.specs.Scanning.{Counts, Known, Listed, checked, front_at, parts, values_at, wide, work}
use Rattle.store.proofs.Refers.{refers, typed, wide_some, wide_most}
use Rattle.store.proofs.Readings.{When, then_when, cond_when, Ahead, Opened, number_ahead, marked_when, part_types, by_parts}
use Rattle.store.proofs.Tops.{never}

-- what is known of a front that was read
abbrev Fronted : List ℕ → F.Form → Bool → ℕ → ℕ → ℕ → ℕ → Type 0
Fronted bs Form.Number more s s' p q = (p < q) × (p < length bs) × (s' ≡ s)
Fronted bs Form.Diamond more s s' p q = (q ≡ p) × (s' + 1 ≡ s)
Fronted bs (Form.List a) more s s' p q = Opened bs 1 s p (more, s') q
Fronted bs (Form.Tree a) more s s' p q = Opened bs 2 s p (more, s') q
Fronted bs (Form.Pair a b) more s s' p q = (q ≡ p) × (s' ≡ s)
Fronted bs (Form.Sum a b) more s s' p q = Opened bs 0 s p (more, s') q

front_when : (bs : List ℕ) (f : F.Form) (s p : ℕ) → When (λ r q. Fronted bs f r.0 s r.1 p q) (front_at f s bs p)
front_when bs Form.Number s p = then_when (λ c q. Ahead bs p q) _ (number_at bs p) _ (number_ahead bs p) (λ c q h. (h.0, h.1, refl))
front_when bs Form.Diamond s p = cond_when _ (leb 1 s) (done (false, s - 1) p) (refused CellsLacking p) (λ e. (refl, omega (arith, leb-true 1 s e))) (λ e. tt)
front_when bs (Form.List a) s p = marked_when 1 s bs p
front_when bs (Form.Tree a) s p = marked_when 2 s bs p
front_when bs (Form.Pair a b) s p = (refl, refl)
front_when bs (Form.Sum a b) s p = marked_when 0 s bs p

-- what is left to do is known, is no wider than the cells counted allow, and is less
pub record Onward (es : List Entry) (bs l : List ℕ) (s p : ℕ) (l' : List ℕ) (s' q : ℕ) : Type 0 where
  pub known : Known es l'
  pub narrow : wide es l' + 15 * s' ≤ wide es l + 15 * s
  pub less : work es bs l' q < work es bs l p
  pub spent : s' ≤ s

module _ (es : List Entry) (ts : List Ty) (T : Types es ts) where
  pub count_wide : (l : List ℕ) → Known es l → length l ≤ wide es l
  count_wide [] k = omega arith
  count_wide (t ∷ l) k = omega (arith, count_wide l k.1, wide_some es ts T t k.0)

  module _ (bs : List ℕ) (t : ℕ) (h : t < length es) (e : Entry) (is : e ≡ entry_of es t) (l : List ℕ) (k : Known es l) where
    onward : (f : F.Form) → e.form ≡ f → (more : Bool) (s s' p q : ℕ) → Fronted bs f more s s' p q
        → Onward es bs (t ∷ l) s p (parts f more t ++ l) s' q
    onward Form.Number i more s s' p q a =
        let r = refers es ts T t h e is Form.Number i in
        let n = count_wide l k in
        record { known = k; narrow = omega (arith, r, a.2); less = omega (arith, r, n, a.0, a.1); spent = omega (arith, a.2) }
    onward Form.Diamond i more s s' p q a =
        let r = refers es ts T t h e is Form.Diamond i in
        let n = count_wide l k in
        record { known = k; narrow = omega (arith, r, a.1); less = omega (arith, r, n, a.0); spent = omega (arith, a.1) }
    onward (Form.List x) i true s s' p q a =
        let r = refers es ts T t h e is (Form.List x) i in
        let n = count_wide l k in
        let hx : x < length es = omega (arith, r.0) in
        record { known = (hx, (h, k)); narrow = omega (arith, r.1, r.2, a.2); less = omega (arith, r.1, r.2, n, a.0, a.1, wide_some es ts T x hx); spent = omega (arith, a.2) }
    onward (Form.List x) i false s s' p q a =
        let r = refers es ts T t h e is (Form.List x) i in
        let n = count_wide l k in
        record { known = k; narrow = omega (arith, r.1, a.2); less = omega (arith, r.1, n, a.0, a.1); spent = omega (arith, a.2) }
    onward (Form.Tree x) i true s s' p q a =
        let r = refers es ts T t h e is (Form.Tree x) i in
        let n = count_wide l k in
        let hx : x < length es = omega (arith, r.0) in
        let w = wide_most es ts T t h in
        record { known = (hx, (h, (h, k))); narrow = omega (arith, r.1, w, a.2); less = omega (arith, r.1, w, n, a.0, a.1, wide_some es ts T x hx); spent = omega (arith, a.2) }
    onward (Form.Tree x) i false s s' p q a =
        let r = refers es ts T t h e is (Form.Tree x) i in
        let n = count_wide l k in
        let hx : x < length es = omega (arith, r.0) in
        record { known = (hx, k); narrow = omega (arith, r.1, a.2); less = omega (arith, r.1, n, a.0, a.1, wide_some es ts T x hx); spent = omega (arith, a.2) }
    onward (Form.Pair x y) i more s s' p q a =
        let r = refers es ts T t h e is (Form.Pair x y) i in
        let n = count_wide l k in
        let hx : x < length es = omega (arith, r.0) in
        let hy : y < length es = omega (arith, r.1) in
        record { known = (hx, (hy, k)); narrow = omega (arith, r.2, a.1); less = omega (arith, r.2, n, a.0, wide_some es ts T x hx, wide_some es ts T y hy); spent = omega (arith, a.1) }
    onward (Form.Sum x y) i true s s' p q a =
        let r = refers es ts T t h e is (Form.Sum x y) i in
        let n = count_wide l k in
        let hy : y < length es = omega (arith, r.1) in
        record { known = (hy, k); narrow = omega (arith, r.2, a.2); less = omega (arith, r.2, n, a.0, a.1, wide_some es ts T y hy); spent = omega (arith, a.2) }
    onward (Form.Sum x y) i false s s' p q a =
        let r = refers es ts T t h e is (Form.Sum x y) i in
        let n = count_wide l k in
        let hx : x < length es = omega (arith, r.0) in
        record { known = (hx, k); narrow = omega (arith, r.2, a.2); less = omega (arith, r.2, n, a.0, a.1, wide_some es ts T x hx); spent = omega (arith, a.2) }

    read_onward : (more : Bool) (s s' p q : ℕ) → front_at e.form s bs p ≡ done (more, s') q
        → Onward es bs (t ∷ l) s p (parts e.form more t ++ l) s' q
    read_onward more s s' p q r = onward e.form refl more s s' p q (subst (When (λ r q. Fronted bs e.form r.0 s r.1 p q)) r (front_when bs e.form s p))

    -- the types of the parts are those that their numbers have
    map_parts : (f : F.Form) (more : Bool) → type_at ts t ≡ formed ts f → map (type_at ts) (parts f more t ++ l) ≡ part_types ts f more ++ map (type_at ts) l
    map_parts Form.Number more i = refl
    map_parts Form.Diamond more i = refl
    map_parts (Form.List x) true i = ap (λ A. type_at ts x ∷ A ∷ map (type_at ts) l) i
    map_parts (Form.List x) false i = refl
    map_parts (Form.Tree x) true i = ap (λ A. type_at ts x ∷ A ∷ A ∷ map (type_at ts) l) i
    map_parts (Form.Tree x) false i = refl
    map_parts (Form.Pair x y) more i = refl
    map_parts (Form.Sum x y) true i = refl
    map_parts (Form.Sum x y) false i = refl

    split : (s p : ℕ) → values_at (map (type_at ts) (t ∷ l)) s bs p
        ≡ then (front_at e.form s bs p) (λ r q. values_at (part_types ts e.form r.0 ++ map (type_at ts) l) r.1 bs q)
    split s p = ap (λ A. values_at (A ∷ map (type_at ts) l) s bs p) (typed es ts T t h e is e.form refl) ∙ by_parts bs ts e.form (map (type_at ts) l) s p

    read_same : (more : Bool) (s s' p q : ℕ) → front_at e.form s bs p ≡ done (more, s') q
        → values_at (map (type_at ts) (t ∷ l)) s bs p ≡ values_at (map (type_at ts) (parts e.form more t ++ l)) s' bs q
    read_same more s s' p q r =
        split s p ∙ ap (λ r. then r (λ r q. values_at (part_types ts e.form r.0 ++ map (type_at ts) l) r.1 bs q)) r
        ∙ ap (λ z. values_at z s' bs q) (sym (map_parts e.form more (typed es ts T t h e is e.form refl)))

    read_refused : (s p : ℕ) (why : Refusal) (q : ℕ) → front_at e.form s bs p ≡ refused why q → values_at (map (type_at ts) (t ∷ l)) s bs p ≡ refused why q
    read_refused s p why q r = split s p ∙ ap (λ r. then r (λ r q. values_at (part_types ts e.form r.0 ++ map (type_at ts) l) r.1 bs q)) r

-- the pile's room
abbrev pub room : ℕ
room = 7696

-- Where the scan of a value of the type t stands, with the types l to come, s cells left and the cursor c: what is to come comes to what the whole does.
pub record Sofar (es : List Entry) (bs : List ℕ) (t most : ℕ) (l : List ℕ) (s : ℕ) (c : Cursor) : Type 0 where
  pub same : (ts : List Ty) → Types es ts → values_at (map (type_at ts) l) s bs c.at ≡ values_at (type_at ts t ∷ []) most bs 0
  pub bytes : c.bytes.now ≡ bs
  pub part : c.part ≡ Value
  pub known : Known es l
  pub narrow : wide es l + 15 * s ≤ room
  pub spent : s ≤ most

pub sofar_none : (es : List Entry) (bs : List ℕ) (t most : ℕ) (l : List ℕ) (c : Cursor) → Listed es → t < length es → most ≤ 512 → l ≡ t ∷ []
    → c.bytes.now ≡ bs → c.at ≡ 0 → c.part ≡ Value → Sofar es bs t most l most c
sofar_none es bs t most l c (ts, T) h n e b a p = record {
  same = λ ts T. ap (λ z. values_at (map (type_at ts) z) most bs c.at) e ∙ ap (values_at (type_at ts t ∷ []) most bs) a;
  bytes = b;
  part = p;
  known = subst (Known es) (sym e) (h, tt);
  narrow = omega (arith, ap (wide es) e, wide_most es ts T t h);
  spent = omega arith;
}

module _ (es : List Entry) (bs : List ℕ) (t most : ℕ) (l : List ℕ) (s : ℕ) (c : Cursor) (L : Listed es) (S : Sofar es bs t most l s c)
    (x : ℕ) (l₁ : List ℕ) (top : l ≡ x ∷ l₁) (e : Entry) (is : e ≡ entry_of es x) where
  at_top : Known es (x ∷ l₁)
  at_top = subst (Known es) top S.known

  -- the front is read from the bytes, wherever the cursor has them
  front_is : {r : Scan (Bool × ℕ)} → front_at e.form s c.bytes.now c.at ≡ r → front_at e.form s bs c.at ≡ r
  front_is f = ap (λ b. front_at e.form s b c.at) (sym S.bytes) ∙ f

  pub sofar_more : (more : Bool) (s' : ℕ) (c' : Cursor) (l' : List ℕ) → Counts (front_at e.form) c s (Ok more) c' s'
      → (length (parts e.form more x ++ l₁) ≤ room → l' ≡ parts e.form more x ++ l₁)
      → Sofar es bs t most l' s' c' × (work es bs l' c'.at < work es bs l c.at)
  sofar_more more s' c' l' a fits =
      let T = L.1 in
      let ls = parts e.form more x ++ l₁ in
      let r = front_is (is_done (front_at e.form s c.bytes.now c.at) c.part (more, s') c'.at a.answer) in
      let o = read_onward es L.0 T bs x at_top.0 e is l₁ at_top.1 more s s' c.at c'.at r in
      let w = ap (wide es) top in
      let n = count_wide es L.0 T ls o.known in
      let f = fits (omega (arith, n, o.narrow, S.narrow, w)) in (
        record {
          same = λ ts T. ap (λ z. values_at (map (type_at ts) z) s' bs c'.at) f ∙ sym (read_same es ts T bs x at_top.0 e is l₁ at_top.1 more s s' c.at c'.at r)
              ∙ ap (λ z. values_at (map (type_at ts) z) s bs c.at) (sym top) ∙ S.same ts T;
          bytes = ap (λ x. x.now) a.bytes ∙ S.bytes;
          part = a.part ∙ S.part;
          known = subst (Known es) (sym f) o.known;
          narrow = omega (arith, ap (wide es) f, o.narrow, S.narrow, w);
          spent = omega (arith, o.spent, S.spent);
        },
        subst (λ z. work es bs z c'.at < work es bs l c.at) (sym f) (subst (λ z. work es bs ls c'.at < work es bs z c.at) (sym top) o.less),
      )

  pub sofar_refused : (f : Fault) (s' : ℕ) (c' : Cursor) → Counts (front_at e.form) c s (Err f) c' s' → (ts : List Ty) → Types es ts
      → (values_at (type_at ts t ∷ []) most bs 0 ≡ refused f.refusal f.place) × (f.part ≡ Value)
  sofar_refused f s' c' a ts T =
      let r = is_refused (front_at e.form s c.bytes.now c.at) c.part f c'.at a.answer in (
        sym (S.same ts T) ∙ ap (λ z. values_at (map (type_at ts) z) s bs c.at) top
            ∙ read_refused es ts T bs x at_top.0 e is l₁ at_top.1 s c.at f.refusal f.place (front_is r.0),
        r.1 ∙ S.part,
      )

-- ---- the whole value

pub whole_refused : (bs : List ℕ) (A : Ty) (s : ℕ) (f : Fault) → values_at (A ∷ []) s bs 0 ≡ refused f.refusal f.place → f.part ≡ Value → Err f ≡ checked s (decode bs A s)
unfolding values_at
whole_refused bs A s f e h = go (value_at A s bs 0) e
  where
    go : (r : Scan (Val × ℕ)) → ◌≡◌ {A = Scan (Unit {0} × ℕ)} (then r (λ x q. done (tt, x.1) q)) (refused f.refusal f.place) → Err f ≡ checked s (whole bs r)
    go (done v p) k = never (cc)
    go (refused why q) k = ap Err (fault_is f why q Value (cc) (cc) h)

abbrev cells_left : Scan (Unit {0} × ℕ) → ℕ
cells_left (done r p) = r.1
cells_left (refused why q) = 0

pub whole_done : (bs : List ℕ) (A : Ty) (s p s' : ℕ) → values_at (A ∷ []) s bs 0 ≡ done (tt, s') p
    → checked s (decode bs A s) ≡ cond (ltb p (length bs)) (Err (record { refusal = BytesOver; place = p; part = Value })) (Ok (s - s'))
unfolding values_at
whole_done bs A s p s' e = go (value_at A s bs 0) e
  where
    split : (b : Bool) (r : Val × ℕ) (q : ℕ) → checked s (cond b (refused BytesOver q) (done r q)) ≡ cond b (Err (record { refusal = BytesOver; place = q; part = Value })) (Ok (s - r.1))
    split true r q = refl
    split false r q = refl

    go : (r : Scan (Val × ℕ)) → ◌≡◌ {A = Scan (Unit {0} × ℕ)} (then r (λ x q. done (tt, x.1) q)) (done (tt, s') p)
        → checked s (whole bs r) ≡ cond (ltb p (length bs)) (Err (record { refusal = BytesOver; place = p; part = Value })) (Ok (s - s'))
    go (done x q) k =
        let a : q ≡ p = cc in
        let b : x.1 ≡ s' = ap cells_left k in
        split (ltb q (length bs)) x q ∙ ap (λ i. cond (ltb i (length bs)) (Err (record { refusal = BytesOver; place = i; part = Value })) (Ok (s - x.1))) a
        ∙ ap (λ i. cond (ltb p (length bs)) (Err (record { refusal = BytesOver; place = p; part = Value })) (Ok (s - i))) b
    go (refused why q) k = never (cc)

-- nothing is to come: what was read is the whole value, and bytes may be over
module _ (es : List Entry) (bs : List ℕ) (t most : ℕ) (l : List ℕ) (s : ℕ) (c : Cursor) (S : Sofar es bs t most l s c) (empty : l ≡ []) (ts : List Ty) (T : Types es ts) where
  ended : checked most (decode bs (type_at ts t) most) ≡ cond (ltb c.at (length bs)) (Err (record { refusal = BytesOver; place = c.at; part = Value })) (Ok (most - s))
  unfolding values_at
  ended = whole_done bs (type_at ts t) most c.at s (sym (S.same ts T) ∙ ap (λ z. values_at (map (type_at ts) z) s bs c.at) empty)

  pub sofar_over : (f : Fault) → f ≡ record { refusal = BytesOver; place = c.at; part = c.part } → c.at < length bs → Err f ≡ checked most (decode bs (type_at ts t) most)
  sofar_over f e h =
      let k : f ≡ record { refusal = BytesOver; place = c.at; part = Value } = e ∙ ap (λ p. record { refusal = BytesOver; place = c.at; part = p }) S.part in
      ap Err k ∙ sym (ended ∙ ap (λ b. cond b (Err (record { refusal = BytesOver; place = c.at; part = Value })) (Ok (most - s))) (lt-ltb c.at (length bs) h))

  pub sofar_end : length bs ≤ c.at → Ok (most - s) ≡ checked most (decode bs (type_at ts t) most)
  sofar_end h = sym (ended ∙ ap (λ b. cond b (Err (record { refusal = BytesOver; place = c.at; part = Value })) (Ok (most - s))) (le-ltb c.at (length bs) h))
