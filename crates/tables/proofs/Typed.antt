-- The steps of reading types: entries and the types that they list.
use Rattle.std.proofs.Common.{◌≡◌, ◌≢◌, ℕ, zero, suc, ◌+◌, ◌<◌, ◌≤◌, Bool, true, false, cond, not, ◌&&◌, leb, ◌⊎◌, List, [], ◌∷◌, ◌++◌, length, get_or, Ok, Err, Result, sym, refl, ap, ◌∙◌, subst, ap₂, inl, inr, arith, length-append}
use Rattle.std.specs.Bool.{MatchBool}
use Rattle.std.specs.List.{AllWithin, HoldsAt}
use Rattle.std.proofs.lemmas.List.{get_or_append_left, get_or_push}
use Rattle.std.proofs.lemmas.List.Recursion.{or_is}
use Rattle.std.proofs.lemmas.Bool.{not-true, not-false, cases_lt, or_parts, and_parts, true≢false, leb-true}
use Rattle.codec.specs.Reading.{Scan, done, refused, then, then as followed, within_at, Takes}
use Rattle.codec.specs.declared.cursor.Cursor.{Cursor}
use Rattle.codec.specs.declared.fault.Fault.{Fault}
use Rattle.codec.specs.declared.fault.Refusal.TheVariants.{EntryRepeated, TooWide}
use Rattle.codec.proofs.Takings.{all, takes_break, takes_done, takes_fault, takes_on}
use Rattle.lfpl.specs.Syntax.{Ty, int, width, is_heap_free, decided, same_ty, Ty-discrete}
use Rattle.lfpl.specs.Typing.{type_at}
use Rattle.lfpl.specs.Reading.{◌>>◌, Reader, pure, demand, below, forms, member, roomy, entry_at, types_at}
use Rattle.tables.specs.Inner.{form_at, Makes}
use Rattle.tables.specs.Listed.{Below, formed, no_entry, entry_of, Lists, Types}
use Rattle.tables.specs.declared.listing.Entry.{Entry}
use Rattle.tables.specs.declared.listing.Form as F
use Rattle.tables.proofs.Givings.{then_assoc, on}

-- ---- an entry and its form

-- how an entry's type is read after the number of its form
pub form_on : (ts : List Ty) (k n : ℕ) {c c' : Cursor} → Takes (within_at 0 6) c (Ok k) c' → k ≡ n → (c'' : Cursor) (r : Result Ty Fault) → Takes (get_or (forms ts) n (pure int)) c' r c'' → Takes (form_at ts) c r c''
form_on ts k n {c} {c'} t e c'' r u =
    on (below 6) (λ k. get_or (forms ts) k (pure int)) k t c'' r (subst (λ k. Takes (get_or (forms ts) k (pure int)) c' r c'') (sym e) u)

-- references that are below i are below all from i on
below_all : (f : F.Form) (i n : ℕ) → i ≤ n → Below i f → Below n f
below_all f i n l h = grind arith

-- forms of one type are the same, as no type is listed twice
same_form : (es : List Entry) (ts : List Ty) → Types es ts → (f g : F.Form) → Below (length ts) f → Below (length ts) g → formed ts f ≡ formed ts g → f ≡ g
same_form es ts t f g h k e = grind (arith, t.distinct)

true_same : (A B : Ty) → A ≡ B → same_ty A B ≡ true
true_same A B e = go (Ty-discrete A B)
  where
    go : (d : Dec (A ≡ B)) → decided d ≡ true
    go (yes p) = refl
    go (no p) = absurd (p e)

not_same : (A B : Ty) → (A ≡ B → ⊥) → same_ty A B ≡ false
not_same A B e = go (Ty-discrete A B)
  where
    go : (d : Dec (A ≡ B)) → decided d ≡ false
    go (yes p) = absurd (e p)
    go (no p) = refl

-- an entry has the form exactly if it lists the form's type
module _ (es : List Entry) (ts : List Ty) (t : Types es ts) (f : F.Form) (A : Ty) (m : Makes ts f A) (i : ℕ) (h : i < length ts) where
  pub form_listed : (entry_of es i).form ≡ f → A ≡ type_at ts i
  form_listed e = m.type ∙ ap (formed ts) (sym e) ∙ sym (t.lists i h).type

  pub listed_form : A ≡ type_at ts i → (entry_of es i).form ≡ f
  listed_form e = same_form es ts t (entry_of es i).form f (below_all _ i (length ts) (omega arith) (t.lists i h).refers) m.refers (sym (t.lists i h).type ∙ sym e ∙ m.type)

-- what `any` finds among the entries is whether the form's type is listed
module _ (es : List Entry) (ts : List Ty) (t : Types es ts) (f : F.Form) (A : Ty) (m : Makes ts f A) where
  pub member_is : (r : Bool) → MatchBool r ((k : ℕ) × (k < length es) × HoldsAt (λ (e : Entry). e.form ≡ f) es k) (AllWithin (λ (e : Entry). e.form ≢ f) es 0 (length es)) → r ≡ member A ts
  member_is true h = or_is (member A) (same_ty A) refl (λ _ _. refl) ts int true
      (λ _. let l : h.0 < length ts = omega (arith, t.long, h.1) in (h.0, l, true_same A _ (form_listed es ts t f A m h.0 l (h.2 no_entry))))
      (λ e. absurd (true≢false e))
  member_is false h = or_is (member A) (same_ty A) refl (λ _ _. refl) ts int false
      (λ e. absurd (true≢false (sym e)))
      (λ _ i l. not_same A _ (λ e. h i no_entry (omega arith) (omega (arith, t.long)) (listed_form es ts t f A m i l e)))

not_member : (A : Ty) (ts : List Ty) (i : ℕ) → member A ts ≡ false → i < length ts → A ≡ type_at ts i → ⊥
not_member A [] i e h q = omega arith
not_member A (B ∷ ts) zero e h q = true≢false (sym (true_same A B q) ∙ (or_parts (same_ty A B) _ e).0)
not_member A (B ∷ ts) (suc i) e h q = not_member A ts i (or_parts (same_ty A B) _ e).1 (omega arith) q

-- ---- an entry after others

-- the tests of an entry that begins at `start` and lists the type A
abbrev pub judged : List Ty → ℕ → Ty → Reader Ty
judged ts start A = do
  demand (not (member A ts)) EntryRepeated start
  demand (leb (width A) 16 && roomy A) TooWide start
  pure A

entry_is : (ts : List Ty) (bs : List ℕ) (p : ℕ) → entry_at ts bs p ≡ then (form_at ts bs p) (λ A q. judged ts p A bs q)
unfolding entry_at
entry_is ts bs p = sym (then_assoc (below 6 bs p) (λ k q. get_or (forms ts) k (pure int) bs q) (λ A q. judged ts p A bs q))

pub entry_breaks : (ts : List Ty) {c c' : Cursor} (e : Fault) → Takes (form_at ts) c (Err e) c' → Takes (entry_at ts) c (Err e) c'
entry_breaks ts {c} {c'} e t = takes_break (form_at ts) (entry_at ts) (judged ts c.at) c (entry_is ts c.bytes.now c.at) c' e t

entry_on : (ts : List Ty) {c c' : Cursor} (A : Ty) → Takes (form_at ts) c (Ok A) c' → (c'' : Cursor) (r : Result Ty Fault) → Takes (judged ts c.at A) c' r c'' → Takes (entry_at ts) c r c''
entry_on ts {c} {c'} A t c'' r u = takes_on (form_at ts) (entry_at ts) (judged ts c.at) c (entry_is ts c.bytes.now c.at) c' A t c'' r u

module _ (ts : List Ty) (A : Ty) {c c' : Cursor} (t : Takes (form_at ts) c (Ok A) c') where
  tests : (a b : Bool) → not (member A ts) ≡ a → (leb (width A) 16 && roomy A) ≡ b → judged ts c.at A c'.bytes.now c'.at ≡ cond a (cond b (done A c'.at) (refused TooWide c.at)) (refused EntryRepeated c.at)
  tests a b d e = ap₂ (λ a b. followed (demand a EntryRepeated c.at c'.bytes.now c'.at) (λ _ q. followed (demand b TooWide c.at c'.bytes.now q) (λ _ q. done A q))) d e ∙ cases a b
    where
      cases : (a b : Bool) → followed (demand a EntryRepeated c.at c'.bytes.now c'.at) (λ _ q. followed (demand b TooWide c.at c'.bytes.now q) (λ _ q. done A q))
          ≡ cond a (cond b (done A c'.at) (refused TooWide c.at)) (refused EntryRepeated c.at)
      cases true true = refl
      cases true false = refl
      cases false b = refl

  pub entry_repeats : true ≡ member A ts → (f : Fault) → f ≡ record { refusal = EntryRepeated; place = c.at; part = c'.part } → Takes (entry_at ts) c (Err f) c'
  entry_repeats m f e = entry_on ts A t c' (Err f) (takes_fault (judged ts c.at A) c' f EntryRepeated c.at (tests false _ (ap not (sym m)) refl) e)

  pub entry_wide : false ≡ member A ts → true ≡ not (leb (width A) 16 && roomy A) → (f : Fault) → f ≡ record { refusal = TooWide; place = c.at; part = c'.part } → Takes (entry_at ts) c (Err f) c'
  entry_wide m w f e = entry_on ts A t c' (Err f) (takes_fault (judged ts c.at A) c' f TooWide c.at (tests true false (ap not (sym m)) (not-true _ (sym w))) e)

  pub entry_fine : false ≡ member A ts → false ≡ not (leb (width A) 16 && roomy A) → Takes (entry_at ts) c (Ok A) c'
  entry_fine m w = entry_on ts A t c' (Ok A) (takes_done (judged ts c.at A) c' A (tests true true (ap not (sym m)) (not-false _ (sym w))))

-- ---- one type more

-- types and entries keep their places
old_type : (ts : List Ty) (A : Ty) (i : ℕ) → i < length ts → type_at (ts ++ A ∷ []) i ≡ type_at ts i
old_type ts A i h = get_or_append_left ts (A ∷ []) int i h

new_type : (ts : List Ty) (A : Ty) (i : ℕ) → length ts ≡ i → type_at (ts ++ A ∷ []) i ≡ A
new_type ts A i h = get_or_push ts A int i h

formed_more : (ts : List Ty) (A : Ty) (f : F.Form) → Below (length ts) f → formed (ts ++ A ∷ []) f ≡ formed ts f
formed_more ts A f h = grind (arith, old_type ts A)

old_lists : (ts : List Ty) (A : Ty) (i : ℕ) (e : Entry) → i < length ts → Lists ts i e → Lists (ts ++ A ∷ []) i e
old_lists ts A i e h l =
    let o = old_type ts A i h in
    record {
      refers = l.refers;
      type = o ∙ l.type ∙ sym (formed_more ts A e.form (below_all e.form i (length ts) (omega arith) l.refers));
      width = l.width ∙ ap width (sym o);
      free = l.free ∙ ap is_heap_free (sym o);
    }

new_lists : (ts : List Ty) (f : F.Form) (A : Ty) (w : ℕ) (v : Bool) → Makes ts f A → w ≡ width A → v ≡ is_heap_free A → (i : ℕ) → length ts ≡ i
    → Lists (ts ++ A ∷ []) i (record { form = f; width = w; heap_free = v })
new_lists ts f A w v m a b i h =
    let o = new_type ts A i h in
    record {
      refers = subst (λ n. Below n f) h m.refers;
      type = o ∙ m.type ∙ sym (formed_more ts A f m.refers);
      width = a ∙ ap width (sym o);
      free = b ∙ ap is_heap_free (sym o);
    }

-- what holds of each type listed and of the new one holds of all
each_type : (ts : List Ty) (A : Ty) (P : Ty → Type 0) → ((i : ℕ) → i < length ts → P (type_at ts i)) → P A → (i : ℕ) → i < length (ts ++ A ∷ []) → P (type_at (ts ++ A ∷ []) i)
each_type ts A P old new i h = go (cases_lt i (length ts))
  where
    go : (i < length ts) ⊎ (length ts ≤ i) → P (type_at (ts ++ A ∷ []) i)
    go (inl a) = subst P (sym (old_type ts A i a)) (old i a)
    go (inr a) = subst P (sym (new_type ts A i (omega (arith, length-append ts (A ∷ []))))) new

module _ (es : List Entry) (ts : List Ty) (t : Types es ts) (f : F.Form) (A : Ty) (m : Makes ts f A) (fresh : false ≡ member A ts) (fits : false ≡ not (leb (width A) 16 && roomy A))
    (w : ℕ) (v : Bool) (a : w ≡ width A) (b : v ≡ is_heap_free A) where
  abbrev pub added : Entry
  added = record { form = f; width = w; heap_free = v }

  more : length (ts ++ A ∷ []) ≡ length ts + 1
  more = length-append ts (A ∷ [])

  lists : (i : ℕ) → i < length (ts ++ A ∷ []) → Lists (ts ++ A ∷ []) i (entry_of (es ++ added ∷ []) i)
  lists i h = go (cases_lt i (length ts))
    where
      go : (i < length ts) ⊎ (length ts ≤ i) → Lists (ts ++ A ∷ []) i (entry_of (es ++ added ∷ []) i)
      go (inl l) = subst (Lists (ts ++ A ∷ []) i) (sym (get_or_append_left es (added ∷ []) no_entry i (omega (arith, t.long)))) (old_lists ts A i (entry_of es i) l (t.lists i l))
      go (inr l) = let z : length ts ≡ i = omega (arith, more) in subst (Lists (ts ++ A ∷ []) i) (sym (get_or_push es added no_entry i (t.long ∙ z))) (new_lists ts f A w v m a b i z)

  distinct : (i j : ℕ) → i < length (ts ++ A ∷ []) → j < length (ts ++ A ∷ []) → type_at (ts ++ A ∷ []) i ≡ type_at (ts ++ A ∷ []) j → i ≡ j
  distinct i j h l q = go (cases_lt i (length ts)) (cases_lt j (length ts))
    where
      go : (i < length ts) ⊎ (length ts ≤ i) → (j < length ts) ⊎ (length ts ≤ j) → i ≡ j
      go (inl x) (inl y) = t.distinct i j x y (sym (old_type ts A i x) ∙ q ∙ old_type ts A j y)
      go (inl x) (inr y) = absurd (not_member A ts i (sym fresh) x (sym (sym (old_type ts A i x) ∙ q ∙ new_type ts A j (omega (arith, more)))))
      go (inr x) (inl y) = absurd (not_member A ts j (sym fresh) y (sym (new_type ts A i (omega (arith, more))) ∙ q ∙ old_type ts A j y))
      go (inr x) (inr y) = omega (arith, more)

  pub one_more : Types (es ++ added ∷ []) (ts ++ A ∷ [])
  one_more =
      let p = and_parts (leb (width A) 16) (roomy A) (not-false _ (sym fits)) in
      record {
        long = length-append es (added ∷ []) ∙ ap (λ n. n + 1) t.long ∙ sym more;
        lists = lists;
        distinct = distinct;
        narrow = each_type ts A (λ B. width B ≤ 16) t.narrow (leb-true (width A) 16 p.0);
        roomy = each_type ts A (λ B. roomy B ≡ true) t.roomy p.1;
      }

-- ---- all types

-- the reading of an entry, by the bytes first
abbrev pub entry_each : List ℕ → List Ty → ℕ → Scan Ty
entry_each bs ts q = entry_at ts bs q

pub types_is : (bs : List ℕ) (p : ℕ) → types_at bs p ≡ then (within_at 1 65 bs p) (λ n q. all entry_each n bs q)
unfolding types_at
types_is bs p = refl

pub no_types : Types [] []
no_types = record { long = refl; lists = λ i h. absurd (omega arith); distinct = λ i j h k e. absurd (omega arith); narrow = λ i h. absurd (omega arith); roomy = λ i h. absurd (omega arith) }
