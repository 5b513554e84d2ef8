-- How readings follow one another: what is known of a call that makes several, from what is known of each. (Other crates cite these.)
use Rattle.std.proofs.Common.{◌≡◌, ℕ, suc, ◌+◌, ◌-◌, ◌<◌, ◌≤◌, Bool, true, false, cond, ◌&&◌, eqb, ltb, leb, List, [], ◌∷◌, ◌++◌, drop, Ok, Err, Result, sym, refl, ap, ◌∙◌, subst, ap₂, arith}
use Rattle.codec.specs.Number.{Numeral, got, ended, overlong, number}
use Rattle.codec.specs.Reading.{Scan, done, refused, then, begun, number_at, within_at, mark_at, many_at, Answered, Takes, found}
use Rattle.codec.specs.declared.cursor.Cursor.{Cursor}
use Rattle.codec.specs.declared.fault.Fault.{Fault}
use Rattle.codec.specs.declared.fault.Part.{Part}
use Rattle.codec.specs.declared.fault.Refusal.{Refusal}
use Rattle.codec.specs.declared.fault.Refusal.TheVariants.{OutOfRange}

-- what an answer says of the reading
pub is_done : {X : Type 0} (s : Scan X) (part : Part) (x : X) (p' : ℕ) → Answered s part (Ok x) p' → s ≡ done x p'
is_done {X} (done y p) part x p' h = same h.0 h.1
  where
    same : ◌≡◌ {A = Result X Fault} (Ok x) (Ok y) → p' ≡ p → done y p ≡ done x p'
    same e k = cc
is_done {X} (refused why q) part x p' h = absurd (never h)
  where
    never : ◌≡◌ {A = Result X Fault} (Ok x) (Err (record { refusal = why; place = q; part = part })) → ⊥
    never e = let z : ◌≡◌ {A = ℕ} 0 1 = cc in omega arith

pub is_refused : {X : Type 0} (s : Scan X) (part : Part) (f : Fault) (p' : ℕ) → Answered s part (Err f) p' → (s ≡ refused f.refusal f.place) × (f.part ≡ part)
is_refused {X} (done y p) part f p' h = absurd (never h.0)
  where
    never : ◌≡◌ {A = Result X Fault} (Err f) (Ok y) → ⊥
    never e = let z : ◌≡◌ {A = ℕ} 0 1 = cc in omega arith
is_refused {X} (refused why q) part f p' h = let e = inside h in (ap (λ g. refused g.refusal g.place) (sym e), ap (λ g. g.part) e)
  where
    inside : ◌≡◌ {A = Result X Fault} (Err f) (Err (record { refusal = why; place = q; part = part })) → f ≡ record { refusal = why; place = q; part = part }
    inside e = cc

pub fault_is : (f : Fault) (w : Refusal) (q : ℕ) (p : Part) → f.refusal ≡ w → f.place ≡ q → f.part ≡ p → f ≡ record { refusal = w; place = q; part = p }
fault_is f w q p a b c =
    let mk : Refusal → ℕ → Part → Fault = λ x y z. record { refusal = x; place = y; part = z } in
    ap₂ (λ x y. mk x y f.part) a b ∙ ap (mk w q) c

pub refused_answers : {X : Type 0} (s : Scan X) (part : Part) (f : Fault) (p' : ℕ) → s ≡ refused f.refusal f.place → f.part ≡ part → Answered s part (Err f) p'
refused_answers s part f p' e h = subst (λ s. Answered s part (Err f) p') (sym e) (ap Err (fault_is f f.refusal f.place part refl refl h))

module _ {X Y : Type 0} (f : List ℕ → ℕ → Scan X) (g : List ℕ → ℕ → Scan Y) (k : X → List ℕ → ℕ → Scan Y)
    (c : Cursor) (splits : g c.bytes.now c.at ≡ then (f c.bytes.now c.at) (λ x p'. k x c.bytes.now p')) (c' : Cursor) where
  -- the first reading is refused
  pub takes_break : (e : Fault) → Takes f c (Err e) c' → Takes g c (Err e) c'
  takes_break e t =
      let r = is_refused (f c.bytes.now c.at) c.part e c'.at t.answer in
      record {
        bytes = t.bytes;
        part = t.part;
        answer = refused_answers (g c.bytes.now c.at) c.part e c'.at (splits ∙ ap (λ s. then s (λ x p'. k x c.bytes.now p')) r.0) r.1;
      }

  -- the first reading gives x, and what follows is answered from there
  pub takes_on : (x : X) → Takes f c (Ok x) c' → (c'' : Cursor) (r : Result Y Fault) → Takes (k x) c' r c'' → Takes g c r c''
  takes_on x t c'' r u =
      let e = is_done (f c.bytes.now c.at) c.part x c'.at t.answer in
      let s : g c.bytes.now c.at ≡ k x c.bytes.now c'.at = splits ∙ ap (λ s. then s (λ x p'. k x c.bytes.now p')) e in
      record {
        bytes = u.bytes ∙ t.bytes;
        part = u.part ∙ t.part;
        answer =
            subst (λ s. Answered s c.part r c''.at) (sym s)
            (subst (λ b. Answered (k x b.now c'.at) c.part r c''.at) t.bytes
            (subst (λ q. Answered (k x c'.bytes.now c'.at) q r c''.at) t.part u.answer));
      }

-- nothing more is read
pub takes_done : {X : Type 0} (k : List ℕ → ℕ → Scan X) (c : Cursor) (x : X) → k c.bytes.now c.at ≡ done x c.at → Takes k c (Ok x) c
takes_done k c x e = record { bytes = refl; part = refl; answer = subst (λ s. Answered s c.part (Ok x) c.at) (sym e) (refl, refl) }

pub takes_refused : {X : Type 0} (k : List ℕ → ℕ → Scan X) (c : Cursor) (f : Fault) → k c.bytes.now c.at ≡ refused f.refusal f.place → f.part ≡ c.part → Takes k c (Err f) c
takes_refused k c f e h = record { bytes = refl; part = refl; answer = refused_answers (k c.bytes.now c.at) c.part f c.at e h }

-- a reading that is refused, answered by a fault that the cursor made
pub takes_fault : {X : Type 0} (k : List ℕ → ℕ → Scan X) (c : Cursor) (f : Fault) (w : Refusal) (q : ℕ) → k c.bytes.now c.at ≡ refused w q
    → f ≡ record { refusal = w; place = q; part = c.part } → Takes k c (Err f) c
takes_fault k c f w q e h = record { bytes = refl; part = refl; answer = subst (λ s. Answered s c.part (Err f) c.at) (sym e) (ap Err h) }

pub many_more : {X : Type 0} (f : List X → ℕ → Scan X) (n m : ℕ) (xs : List X) (p : ℕ) → n ≡ suc m
    → many_at f n xs p ≡ then (f xs p) (λ x p'. many_at f m (xs ++ x ∷ []) p')
unfolding many_at
many_more f n m xs p e = ap (λ n. many_at f n xs p) e

pub many_none : {X : Type 0} (f : List X → ℕ → Scan X) (n : ℕ) (xs : List X) (p : ℕ) → n ≡ 0 → many_at f n xs p ≡ done xs p
unfolding many_at
many_none f n xs p e = ap (λ n. many_at f n xs p) e

-- the same reading under another name
pub takes_as : {X : Type 0} (f g : List ℕ → ℕ → Scan X) {c c' : Cursor} {r : Result X Fault} → g c.bytes.now c.at ≡ f c.bytes.now c.at → Takes f c r c' → Takes g c r c'
takes_as f g {c} {c'} {r} e t = record { bytes = t.bytes; part = t.part; answer = subst (λ s. Answered s c.part r c'.at) (sym e) t.answer }

-- ---- numbers, numbers in a range and marks

begins : (n : Numeral) (p : ℕ) (w : Refusal) → Err w ≡ found (begun n p) → begun n p ≡ refused w p
begins (got v k) p w e = absurd (never e)
  where
    never : ◌≡◌ {A = Result (ℕ × ℕ) Refusal} (Err w) (Ok (v, p + k)) → ⊥
    never e = let z : ◌≡◌ {A = ℕ} 0 1 = cc in omega arith
begins ended p w e = cc
begins overlong p w e = cc

-- a refused number is refused where it begins
pub number_begins : (bs : List ℕ) (p : ℕ) (w : Refusal) → Err w ≡ found (number_at bs p) → number_at bs p ≡ refused w p
unfolding number_at
number_begins bs p w e = begins (number (drop p bs)) p w e

-- the test of a number in a range, at the place `start`
unfoldable pub tested : (lo hi start v : ℕ) (bs : List ℕ) (p : ℕ) → Scan ℕ
tested lo hi start v bs p = cond (leb lo v && ltb v hi) (done v p) (refused OutOfRange start)

pub within_splits : (lo hi : ℕ) (bs : List ℕ) (p : ℕ) → within_at lo hi bs p ≡ then (number_at bs p) (λ v p'. tested lo hi p v bs p')
unfolding within_at tested
within_splits lo hi bs p = refl

pub test_fails : (lo hi start v : ℕ) (bs : List ℕ) (p : ℕ) → false ≡ (leb lo v && ltb v hi) → tested lo hi start v bs p ≡ refused OutOfRange start
unfolding tested
test_fails lo hi start v bs p h = rw (sym h) refl

pub test_passes : (lo hi start v : ℕ) (bs : List ℕ) (p : ℕ) → true ≡ (leb lo v && ltb v hi) → tested lo hi start v bs p ≡ done v p
unfolding tested
test_passes lo hi start v bs p h = rw (sym h) refl

-- the cursor put back to where it was
pub put_back : (c c' : Cursor) → c'.bytes ≡ c.bytes → c'.part ≡ c.part → ◌≡◌ {A = Cursor} (record { bytes = c'.bytes; at = c.at; part = c'.part }) c
put_back c c' b p = ap₂ (λ x y. record { bytes = x; at = c.at; part = y }) b p

-- a number out of its range
pub within_fails : (lo hi : ℕ) (c c' : Cursor) (v : ℕ) → Takes number_at c (Ok v) c' → false ≡ (leb lo v && ltb v hi)
    → within_at lo hi c.bytes.now c.at ≡ refused OutOfRange c.at
within_fails lo hi c c' v t o =
    within_splits lo hi c.bytes.now c.at
    ∙ ap (λ s. then s (λ v p'. tested lo hi c.at v c.bytes.now p')) (is_done (number_at c.bytes.now c.at) c.part v c'.at t.answer)
    ∙ test_fails lo hi c.at v c.bytes.now c'.at o

-- whether a number is 1
abbrev pub marks : ℕ → List ℕ → ℕ → Scan Bool
marks v bs p = done (eqb v 1) p

pub mark_splits : (bs : List ℕ) (p : ℕ) → mark_at bs p ≡ then (within_at 0 2 bs p) (λ v p'. marks v bs p')
unfolding mark_at
mark_splits bs p = refl

-- ---- several readings in a loop

-- i of n readings are done, and have given xs; the loop began at the cursor b
abbrev pub Many : {X : Type 0} → (List ℕ → List X → ℕ → Scan X) → ℕ → ℕ → List X → Cursor → Cursor → Type 0
Many f n i xs c b = (many_at (f c.bytes.now) (n - i) xs c.at ≡ many_at (f b.bytes.now) n [] b.at) × (c.bytes ≡ b.bytes) × (c.part ≡ b.part)

abbrev pub all : {X : Type 0} → (List ℕ → List X → ℕ → Scan X) → ℕ → List ℕ → ℕ → Scan (List X)
all f n bs p = many_at (f bs) n [] p

module _ {X : Type 0} (f : List ℕ → List X → ℕ → Scan X) (n : ℕ) where
  pub many_begins : (c : Cursor) → Many f n 0 [] c c
  many_begins c = let z : n - 0 ≡ n = omega arith in (ap (λ k. many_at (f c.bytes.now) k [] c.at) z, refl, refl)

  module _ (i : ℕ) (xs : List X) (c b : Cursor) (s : Many f n i xs c b) where
    step : i < n → many_at (f c.bytes.now) (n - i) xs c.at ≡ then (f c.bytes.now xs c.at) (λ x p'. many_at (f c.bytes.now) (n - (i + 1)) (xs ++ x ∷ []) p')
    step h = let z : n - i ≡ suc (n - (i + 1)) = omega arith in many_more (f c.bytes.now) (n - i) (n - (i + 1)) xs c.at z

    pub many_again : (x : X) (ys : List X) (c' : Cursor) → i < n → Takes (λ bs. f bs xs) c (Ok x) c' → ys ≡ xs ++ x ∷ [] → Many f n (i + 1) ys c' b
    many_again x ys c' h t e =
        let d = is_done (f c.bytes.now xs c.at) c.part x c'.at t.answer in (
          ap (λ z. many_at (f z.now) (n - (i + 1)) ys c'.at) t.bytes
              ∙ ap (λ z. many_at (f c.bytes.now) (n - (i + 1)) z c'.at) e
              ∙ sym (ap (λ s. then s (λ x p'. many_at (f c.bytes.now) (n - (i + 1)) (xs ++ x ∷ []) p')) d)
              ∙ sym (step h) ∙ s.0,
          t.bytes ∙ s.1,
          t.part ∙ s.2,
        )

    pub many_breaks : (e : Fault) (c' : Cursor) → i < n → Takes (λ bs. f bs xs) c (Err e) c' → Takes (all f n) b (Err e) c'
    many_breaks e c' h t =
        let r = is_refused (f c.bytes.now xs c.at) c.part e c'.at t.answer in
        record {
          bytes = t.bytes ∙ s.1;
          part = t.part ∙ s.2;
          answer = refused_answers (many_at (f b.bytes.now) n [] b.at) b.part e c'.at
              (sym s.0 ∙ step h ∙ ap (λ s. then s (λ x p'. many_at (f c.bytes.now) (n - (i + 1)) (xs ++ x ∷ []) p')) r.0) (r.1 ∙ s.2);
        }

    pub many_ends : n ≤ i → Takes (all f n) b (Ok xs) c
    many_ends h =
        let z : n - i ≡ 0 = omega arith in
        record {
          bytes = s.1;
          part = s.2;
          answer = subst (λ s. Answered s b.part (Ok xs) c.at) (many_none' z) (refl, refl);
        }
      where
        many_none' : n - i ≡ 0 → done xs c.at ≡ many_at (f b.bytes.now) n [] b.at
        many_none' z = sym (many_none (f c.bytes.now) (n - i) xs c.at z) ∙ s.0
