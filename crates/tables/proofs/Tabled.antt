-- The steps of reading a table.
use Rattle.std.proofs.Common.{◌≡◌, ℕ, ◌<◌, ◌≤◌, Bool, true, false, cond, ltb, List, map, length, take, Ok, Err, Result, sym, refl, ap, ◌∙◌, ap₂, arith, length-take}
use Rattle.std.proofs.lemmas.Bool.{lt-ltb, le-ltb}
use Rattle.codec.specs.Reading.{done, refused, then, Takes}
use Rattle.codec.specs.declared.cursor.Cursor.{Cursor}
use Rattle.codec.specs.declared.fault.Fault.{Fault}
use Rattle.codec.specs.declared.fault.Part.TheVariants.{Table}
use Rattle.codec.specs.declared.fault.Refusal.TheVariants.{BytesOver}
use Rattle.codec.proofs.Takings.{is_done, is_refused, takes_break, takes_on, takes_done, takes_fault}
use Rattle.lfpl.specs.Syntax.{Ty, Exprs, Program}
use Rattle.lfpl.specs.Reading.{Reader, ◌>>=◌, ◌>>◌, pure, Signature as TypeOf, arity, types_at, signatures_at, each_at, expr_at, functions_of, finished, table_at, scanned_table}
use Rattle.tables.specs.Inner.{Named}
use Rattle.tables.specs.Listed.{Types, AllSign, names_for}
use Rattle.tables.specs.declared.listing.Entry.{Entry}
use Rattle.tables.specs.declared.listing.Signature.{Signature}
use Rattle.tables.proofs.Givings.{break, on}
use Rattle.tables.proofs.Signed.{arities_are}

-- the bodies, and what is read after the types, the signatures and the bodies
abbrev pub bodies_at : List Ty → List TypeOf → Reader Exprs
bodies_at ts ss = each_at (names_for ts ss) (expr_at (names_for ts ss) 513) 512 (map arity ss)

abbrev program : List Ty → List TypeOf → Exprs → Program
program ts ss es = record { types = ts; functions = functions_of ss es }

abbrev end_at : List Ty → List TypeOf → Exprs → Reader Program
end_at ts ss es = finished >> pure (program ts ss es)

abbrev after_signatures : List Ty → List TypeOf → Reader Program
after_signatures ts ss = bodies_at ts ss >>= end_at ts ss

abbrev after_types : List Ty → Reader Program
after_types ts = signatures_at ts >>= after_signatures ts

table_is : (bs : List ℕ) (p : ℕ) → table_at bs p ≡ then (types_at bs p) (λ ts q. after_types ts bs q)
unfolding table_at
table_is bs p = refl

end_is : (ts : List Ty) (ss : List TypeOf) (es : Exprs) (bs : List ℕ) (p : ℕ) (b : Bool) → ltb p (length bs) ≡ b → end_at ts ss es bs p ≡ cond b (refused BytesOver p) (done (program ts ss es) p)
unfolding finished
end_is ts ss es bs p b e = ap (λ b. then (cond b (refused BytesOver p) (done tt p)) (λ _ q. done (program ts ss es) q)) e ∙ cases b
  where
    cases : (b : Bool) → then (cond b (refused BytesOver p) (done (tt {0}) p)) (λ _ q. done (program ts ss es) q) ≡ cond b (refused BytesOver p) (done (program ts ss es) p)
    cases true = refl
    cases false = refl

-- the reading of a whole table begins at the first byte, and its faults concern a table
module _ (bs : List ℕ) (c₀ : Cursor) (whole : c₀.bytes.now ≡ bs) (begins : c₀.at ≡ 0) (of : c₀.part ≡ Table) where
  refuses : {c : Cursor} (f : Fault) → Takes table_at c₀ (Err f) c → (scanned_table bs ≡ refused f.refusal f.place) × (f.part ≡ Table)
  refuses {c} f t =
      let r = is_refused (table_at c₀.bytes.now c₀.at) c₀.part f c.at t.answer in
      (sym (ap₂ table_at whole begins) ∙ r.0, r.1 ∙ of)

  pub types_refused : {c₁ : Cursor} (f : Fault) → Takes types_at c₀ (Err f) c₁ → (scanned_table bs ≡ refused f.refusal f.place) × (f.part ≡ Table)
  types_refused {c₁} f t = refuses f (takes_break types_at table_at after_types c₀ (table_is _ _) c₁ f t)

  module _ (ts : List Ty) {c₁ : Cursor} (t₁ : Takes types_at c₀ (Ok ts) c₁) where
    takes_after_types : {c : Cursor} (r : Result Program Fault) → Takes (after_types ts) c₁ r c → Takes table_at c₀ r c
    takes_after_types {c} r t = takes_on types_at table_at after_types c₀ (table_is _ _) c₁ ts t₁ c r t

    pub signatures_refused : {c₂ : Cursor} (f : Fault) → Takes (signatures_at ts) c₁ (Err f) c₂ → (scanned_table bs ≡ refused f.refusal f.place) × (f.part ≡ Table)
    signatures_refused {c₂} f t = refuses f (takes_after_types (Err f) (break (signatures_at ts) (after_signatures ts) f t))

    module _ (ss : List TypeOf) {c₂ : Cursor} (t₂ : Takes (signatures_at ts) c₁ (Ok ss) c₂) where
      pub bodies_refused : {c₃ : Cursor} (f : Fault) → Takes (bodies_at ts ss) c₂ (Err f) c₃ → (scanned_table bs ≡ refused f.refusal f.place) × (f.part ≡ Table)
      bodies_refused {c₃} f t = refuses f (takes_after_types (Err f) (on (signatures_at ts) (after_signatures ts) ss t₂ c₃ (Err f) (break (bodies_at ts ss) (end_at ts ss) f t)))

      module _ (es : Exprs) {c₃ : Cursor} (t₃ : Takes (bodies_at ts ss) c₂ (Ok es) c₃) where
        after_bodies : (r : Result Program Fault) → Takes (end_at ts ss es) c₃ r c₃ → Takes table_at c₀ r c₃
        after_bodies r t = takes_after_types r (on (signatures_at ts) (after_signatures ts) ss t₂ c₃ r (on (bodies_at ts ss) (end_at ts ss) es t₃ c₃ r t))

        same : length c₃.bytes.now ≡ length bs
        same = ap (λ b. length b.now) (t₃.bytes ∙ t₂.bytes ∙ t₁.bytes) ∙ ap length whole

        pub bytes_over : c₃.at < length bs → (f : Fault) → f ≡ record { refusal = BytesOver; place = c₃.at; part = c₃.part } → (scanned_table bs ≡ refused f.refusal f.place) × (f.part ≡ Table)
        bytes_over h f e =
            refuses f (after_bodies (Err f) (takes_fault (end_at ts ss es) c₃ f BytesOver c₃.at (end_is ts ss es c₃.bytes.now c₃.at true (lt-ltb c₃.at (length c₃.bytes.now) (omega (arith, same)))) e))

        pub all_read : length bs ≤ c₃.at → scanned_table bs ≡ done (program ts ss es) c₃.at
        all_read h =
            let t = after_bodies (Ok (program ts ss es)) (takes_done (end_at ts ss es) c₃ (program ts ss es) (end_is ts ss es c₃.bytes.now c₃.at false (le-ltb c₃.at (length c₃.bytes.now) (omega (arith, same))))) in
            sym (ap₂ table_at whole begins) ∙ is_done (table_at c₀.bytes.now c₀.at) c₀.part (program ts ss es) c₃.at t.answer

-- the counts that the code goes by
pub count_types : (entries : List Entry) (n : ℕ) (ts : List Ty) → Types (take n entries) ts → n ≤ length entries → length ts ≡ n
count_types entries n ts t h = omega (arith, t.long, length-take n entries)

pub named : (n m : ℕ) (slots : List Signature) (ts : List Ty) (ss : List TypeOf) → length ts ≡ n → AllSign ts (take m slots) ss → Named n (take m slots) (names_for ts ss)
named n m slots ts ss l a = record { types = l; arities = arities_are ts (take m slots) ss a }
