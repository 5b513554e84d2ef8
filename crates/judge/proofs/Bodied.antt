-- The bodies of a listing, one after another.
use Rattle.std.proofs.Common.{◌≡◌, ℕ, zero, suc, ◌+◌, ◌<◌, ◌≤◌, ◌⊎◌, List, [], ◌∷◌, map, length, get_or, take, drop, set, Ok, Err, Result, sym, refl, ap, ◌∙◌, subst, inl, inr, le_of_suc-le-suc, not-suc-le-zero, arith, length-take}
use lib.ListN.{length-map}
use Rattle.std.proofs.lemmas.List.{get_or-set_same, get_or-set_other, get_or-take, drop_more, drop_all}
use Rattle.std.proofs.lemmas.Bool.{cases_lt}
use Rattle.codec.specs.Reading.{done}
use Rattle.codec.specs.declared.fault.Fault.{Fault}
use Rattle.codec.specs.declared.fault.Refusal.{Refusal}
use Rattle.lfpl.specs.Admission.{judged, admitted, admission}
use Rattle.lfpl.specs.Judge.{Verdict, fine, faulty, ◌>>=◌, judge, bodies_verdict, program_verdict}
use Rattle.lfpl.specs.Reading.{Names, Signature as TypeOf, functions_of, arity, scanned_table}
use Rattle.lfpl.specs.Syntax.{Ty, Expr, Exprs, end, ◌then◌, size, Fun, Program}
use Rattle.lfpl.specs.Typing.{fun_at}
use Rattle.tables.specs.Listed.{Holds, Signs, AllSign, Stands, AllStand, names_for}
use Rattle.tables.specs.Read.{Reads}
use Rattle.tables.specs.declared.listing.Listing.{Listing}
use Rattle.tables.specs.declared.listing.Node.{Node}
use Rattle.tables.specs.declared.listing.Signature.{Signature}
use Rattle.judge.specs.Admitting.{start_of, Bodies, Admits, AdmitsOver, BodiesOver, TellsOver, PosesBody, body_verdict, PassedBody, AnswersListing}
use Rattle.judge.specs.Judging.{listed_nodes, counted}
use Rattle.judge.specs.Over.{NotedOverBody}
use Rattle.judge.specs.Notes.{offsets, widths}
use Rattle.typing.specs.Rules.{Basis, names_of, type_of}
use Rattle.judge.specs.declared.table.Note.{Note}
use Rattle.judge.specs.declared.table.Table.{Table}
use Rattle.judge.proofs.Noting.{kept, over_noted_body}
use Rattle.judge.proofs.Standing.{extent, stand_count, at_first}

-- ---- where bodies begin

start_none : (fs : List Fun) → start_of fs 0 ≡ 0
start_none [] = refl
start_none (g ∷ fs) = refl

pub start_more : (fs : List Fun) (f : ℕ) → f < length fs → start_of fs (f + 1) ≡ start_of fs f + size (fun_at fs f).body
start_more [] f h = absurd (not-suc-le-zero h)
start_more (g ∷ fs) zero h = let e = start_none fs in omega arith
start_more (g ∷ fs) (suc f) h =
    let e = start_more fs f (le_of_suc-le-suc h) in
    let z : suc f + 1 ≡ suc (f + 1) = omega arith in
    ap (start_of (g ∷ fs)) z ∙ (let y : size g.body + start_of fs (f + 1) ≡ size g.body + start_of fs f + size (fun_at fs f).body = omega arith in y)

-- a body ends before a later one begins
pub start_after : (fs : List Fun) (k f : ℕ) → k < f → f ≤ length fs → start_of fs k + size (fun_at fs k).body ≤ start_of fs f
start_after fs k zero h l = absurd (not-suc-le-zero h)
start_after fs k (suc f) h l = go (cases_lt k f) (λ m. start_after fs k f m (omega arith)) (start_more fs f l)
  where
    step : f + 1 ≡ suc f
    step = omega arith

    go : (k < f) ⊎ (f ≤ k) → (k < f → start_of fs k + size (fun_at fs k).body ≤ start_of fs f) → start_of fs (f + 1) ≡ start_of fs f + size (fun_at fs f).body → start_of fs k + size (fun_at fs k).body ≤ start_of fs (suc f)
    go (inl m) i e = let j = i m in let y = ap (start_of fs) step in omega arith
    go (inr m) i e =
        let z : k ≡ f = omega arith in
        let y = ap (start_of fs) step in
        subst (λ (x : ℕ). start_of fs x + size (fun_at fs x).body ≤ start_of fs (suc f)) (sym z) (omega arith)

-- ---- what a listing holds

-- the functions fs and their bodies, by number
pub record Held (l : Listing) (ts : List Ty) (fs : List Fun) : Type 0 where
  pub basis : Basis l ts fs
  pub many : length fs ≡ length (take l.functions l.signatures)
  pub signs : (f : ℕ) (d : Signature) → f < length fs → Signs ts (get_or (take l.functions l.signatures) f d) (type_of (fun_at fs f))
  pub stands : (f : ℕ) → f < length fs → Stands (names_of ts fs) (listed_nodes l) (length (fun_at fs f).params) (start_of fs f) (fun_at fs f).body (start_of fs (f + 1))

arities_same : (ss : List TypeOf) (es : Exprs) → counted es ≡ length ss → map (λ (f : Fun). length f.params) (functions_of ss es) ≡ map arity ss
arities_same [] es h = refl
arities_same (s ∷ ss) end h = absurd (omega arith)
arities_same (s ∷ ss) (e then es) h = ap (λ (x : List ℕ). arity s ∷ x) (arities_same ss es (omega arith))

functions_many : (ss : List TypeOf) (es : Exprs) → counted es ≡ length ss → length (functions_of ss es) ≡ length ss
functions_many [] es h = refl
functions_many (s ∷ ss) end h = absurd (omega arith)
functions_many (s ∷ ss) (e then es) h = ap suc (functions_many ss es (omega arith))

all_signed : (ts : List Ty) (xs : List Signature) (ss : List TypeOf) (es : Exprs) → counted es ≡ length ss → AllSign ts xs ss
    → (f : ℕ) (d : Signature) → f < length (functions_of ss es) → Signs ts (get_or xs f d) (type_of (fun_at (functions_of ss es) f))
all_signed ts [] [] es h a f d l = absurd (not-suc-le-zero l)
all_signed ts [] (s ∷ ss) es h a f d l = absurd a
all_signed ts (x ∷ xs) [] es h a f d l = absurd a
all_signed ts (x ∷ xs) (s ∷ ss) end h a f d l = absurd (omega arith)
all_signed ts (x ∷ xs) (s ∷ ss) (e then es) h a zero d l = a.0
all_signed ts (x ∷ xs) (s ∷ ss) (e then es) h a (suc f) d l = all_signed ts xs ss es (omega arith) a.1 f d (le_of_suc-le-suc l)

signed_many : (ts : List Ty) (xs : List Signature) (ss : List TypeOf) → AllSign ts xs ss → length xs ≡ length ss
signed_many ts [] [] a = refl
signed_many ts [] (s ∷ ss) a = absurd a
signed_many ts (x ∷ xs) [] a = absurd a
signed_many ts (x ∷ xs) (s ∷ ss) a = ap suc (signed_many ts xs ss a.1)

stands_at : (ns : Names) (nodes : List Node) (n i i' j j' : ℕ) (e : Expr) → i ≡ i' → j ≡ j' → Stands ns nodes n i e j → Stands ns nodes n i' e j'
stands_at ns nodes n i i' j j' e p q s = subst (λ (x : ℕ). Stands ns nodes n i' e x) q (subst (λ (x : ℕ). Stands ns nodes n x e j) p s)

bodies_stand : (ns : Names) (nodes : List Node) (ss : List TypeOf) (es : Exprs) (i j : ℕ) → AllStand ns nodes (map arity ss) i es j → (f : ℕ) → f < length (functions_of ss es)
    → Stands ns nodes (length (fun_at (functions_of ss es) f).params) (i + start_of (functions_of ss es) f) (fun_at (functions_of ss es) f).body (i + start_of (functions_of ss es) (f + 1))
bodies_stand ns nodes [] es i j a f h = absurd (not-suc-le-zero h)
bodies_stand ns nodes (s ∷ ss) end i j a f h = absurd (not-suc-le-zero h)
bodies_stand ns nodes (s ∷ ss) (e then es) i j a zero h =
    let F = at_first ns nodes (arity s) (map arity ss) (map arity (s ∷ ss)) refl a in
    let g : e ≡ F.first = first_same F.is in
    let b = subst (λ (x : Expr). Stands ns nodes (arity s) i x F.middle) (sym g) F.first_stands in
    let m = extent ns nodes b in
    let z = start_none (functions_of ss es) in
    stands_at ns nodes (arity s) i (i + 0) F.middle (i + (size e + start_of (functions_of ss es) 0)) e (omega arith) (omega arith) b
  where
    first_same : {x : Expr} {xs : Exprs} → (e then es) ≡ (x then xs) → e ≡ x
    first_same p = cc
bodies_stand ns nodes (s ∷ ss) (e then es) i j a (suc f) h =
    let F = at_first ns nodes (arity s) (map arity ss) (map arity (s ∷ ss)) refl a in
    let g : e ≡ F.first = first_same F.is in
    let r : es ≡ F.rest = rest_same F.is in
    let m = extent ns nodes F.first_stands in
    let y = ap size g in
    let z : suc f + 1 ≡ suc (f + 1) = omega arith in
    let w = ap (start_of (functions_of (s ∷ ss) (e then es))) z in
    let t = bodies_stand ns nodes ss es F.middle j (subst (λ (x : Exprs). AllStand ns nodes (map arity ss) F.middle x j) (sym r) F.rest_stand) f (le_of_suc-le-suc h) in
    stands_at ns nodes _ (F.middle + start_of (functions_of ss es) f) (i + (size e + start_of (functions_of ss es) f)) (F.middle + start_of (functions_of ss es) (f + 1))
    (i + start_of (functions_of (s ∷ ss) (e then es)) (suc f + 1)) _ (omega arith) (omega arith) t
  where
    first_same : {x : Expr} {xs : Exprs} → (e then es) ≡ (x then xs) → e ≡ x
    first_same p = cc

    rest_same : {x : Expr} {xs : Exprs} → (e then es) ≡ (x then xs) → es ≡ xs
    rest_same p = cc

pub held : (l : Listing) (p : Program) → Holds l p → Held l p.types p.functions
held l p h = subst (Held l p.types) (sym h.functions) it
  where
    ss : List TypeOf
    ss = h.signatures

    es : Exprs
    es = h.bodies

    fs : List Fun
    fs = functions_of ss es

    enough : counted es ≡ length ss
    enough = stand_count (names_for p.types ss) (listed_nodes l) h.stand ∙ length-map ss arity

    few : length (fs) ≡ length (take l.functions l.signatures)
    few = functions_many ss es enough ∙ sym (signed_many p.types (take l.functions l.signatures) ss h.sign)

    names : names_for p.types ss ≡ names_of p.types (fs)
    names = ap (λ (a : List ℕ). record { types = p.types; arities = a }) (sym (arities_same ss es enough))

    sign : (f : ℕ) (d : Signature) → f < length (fs) → Signs p.types (get_or (take l.functions l.signatures) f d) (type_of (fun_at (fs) f))
    sign f d k = all_signed p.types (take l.functions l.signatures) ss es enough h.sign f d k

    it : Held l p.types (fs)
    it = record {
      basis = record {
        typed = record { few = h.few_types; types = h.types };
        few = let n = length-take l.functions l.signatures in let m = h.few_functions in let q = few in omega arith;
        signed = λ f d k. let n = length-take l.functions l.signatures in let q = few in
            subst (λ (x : Signature). Signs p.types x (type_of (fun_at (fs) f))) (get_or-take l.functions l.signatures f d (omega arith)) (sign f d k);
        short = h.few_nodes;
      };
      many = few;
      signs = sign;
      stands = λ f k.
          stands_at (names_of p.types fs) (listed_nodes l) (length (fun_at fs f).params) (0 + start_of fs f) (start_of fs f) (0 + start_of fs (f + 1)) (start_of fs (f + 1)) (fun_at fs f).body
          (omega arith) (omega arith)
          (subst (λ (x : Names). Stands x (listed_nodes l) (length (fun_at fs f).params) (0 + start_of fs f) (fun_at fs f).body (0 + start_of fs (f + 1))) names
          (bodies_stand (names_for p.types ss) (listed_nodes l) ss es 0 l.expressions h.stand f k));
    }

-- ---- verdicts

then_fine : {X : Type 0} (v : Verdict X) (f : X → Verdict (Unit {0})) (k : Verdict (Unit {0})) → (v >>= f) ≡ fine tt → (v >>= λ x. f x >>= λ (u : Unit {0}). k) ≡ k
then_fine (fine x) f k h = ap (λ (w : Verdict (Unit {0})). w >>= λ (u : Unit {0}). k) h
then_fine (faulty w i) f k h = absurd (let z : ◌≡◌ {A = ℕ} 0 1 = cc in omega arith)

then_faulty : {X : Type 0} (v : Verdict X) (f : X → Verdict (Unit {0})) (k : Verdict (Unit {0})) (w : Refusal) (i : ℕ) → (v >>= f) ≡ faulty w i
    → (v >>= λ x. f x >>= λ (u : Unit {0}). k) ≡ faulty w i
then_faulty (fine x) f k w i h = ap (λ (y : Verdict (Unit {0})). y >>= λ (u : Unit {0}). k) h
then_faulty (faulty w' i') f k w i h = again h
  where
    again : ◌≡◌ {A = Verdict (Unit {0})} (faulty w' i') (faulty w i) → ◌≡◌ {A = Verdict (Unit {0})} (faulty w' i') (faulty w i)
    again e = e

-- ---- the bodies judged so far

-- the bodies before f passed and are noted, and the next begins at the number n
pub record Upto (p : Program) (notes : List Note) (begins : List ℕ) (f n : ℕ) : Type 0 where
  pub here : n ≡ start_of p.functions f
  pub verdict : program_verdict p ≡ bodies_verdict p.functions (drop f p.functions) n
  pub starts : (k : ℕ) → k < f → get_or begins k 0 ≡ start_of p.functions k
  pub words : (k : ℕ) → k < f → NotedOverBody p.types p.functions notes (fun_at p.functions k) (start_of p.functions k)

pub upto_none : (p : Program) (notes : List Note) (begins : List ℕ) → Upto p notes begins 0 0
upto_none p notes begins = record {
  here = sym (start_none p.functions);
  verdict = refl;
  starts = λ k h. absurd (not-suc-le-zero h);
  words = λ k h. absurd (not-suc-le-zero h);
}

-- what is read outside the signatures of a listing
abbrev pub no_signature : Signature
no_signature = record { params = []; arity = 0; result = 0 }

module _ (l : Listing) (p : Program) (h : Holds l p) (notes : List Note) (begins : List ℕ) (f n : ℕ) (u : Upto p notes begins f n) where
  module _ (k : f < length (take l.functions l.signatures)) where
    within : f < length p.functions
    within = let m = (held l p h).many in omega arith

    pub body_posed : PosesBody l (get_or (take l.functions l.signatures) f no_signature) n p.types p.functions (fun_at p.functions f) (start_of p.functions (f + 1))
    body_posed =
        let H = held l p h in
        record {
          basis = H.basis;
          signs = H.signs f no_signature within;
          stands = stands_at (names_of p.types p.functions) (listed_nodes l) (length (fun_at p.functions f).params) (start_of p.functions f) n
              (start_of p.functions (f + 1)) (start_of p.functions (f + 1)) (fun_at p.functions f).body (sym u.here) refl (H.stands f within);
        }

    next : drop f p.functions ≡ fun_at p.functions f ∷ drop (f + 1) p.functions
    next = drop_more p.functions f _ within

    pub body_fault : (w : Refusal) (i : ℕ) → body_verdict p.functions (fun_at p.functions f) n ≡ faulty w i → program_verdict p ≡ faulty w i
    body_fault w i e =
        u.verdict ∙ ap (λ (x : List Fun). bodies_verdict p.functions x n) next
        ∙ then_faulty (judge p.functions (fun_at p.functions f).body n (fun_at p.functions f).params) _ _ w i e

    pub upto_more : (notes' : List Note) (m : ℕ) → length notes' ≡ length notes → length begins ≡ 32
        → PassedBody p.types p.functions (fun_at p.functions f) n (start_of p.functions (f + 1)) notes notes' m → Upto p notes' (set begins f n) (f + 1) m
    upto_more notes' m long full b =
        let e = start_more p.functions f within in
        let o = u.here in
        let q : n + size (fun_at p.functions f).body ≡ m = omega (arith, b.ends) in
        record {
          here = b.ends;
          verdict =
              u.verdict ∙ ap (λ (x : List Fun). bodies_verdict p.functions x n) next
              ∙ then_fine (judge p.functions (fun_at p.functions f).body n (fun_at p.functions f).params) _ _ b.typed
              ∙ ap (bodies_verdict p.functions (drop (f + 1) p.functions)) q;
          starts = λ i j. starts_at i (cases_lt i f) j;
          words = λ i j. over_at i (cases_lt i f) j;
        }
      where
        room : f < length begins
        room =
            let t = length-take l.functions l.signatures in
            let g = h.few_functions in
            omega arith

        starts_at : (i : ℕ) → (i < f) ⊎ (f ≤ i) → i < f + 1 → get_or (set begins f n) i 0 ≡ start_of p.functions i
        starts_at i (inl j) g = get_or-set_other begins f i n 0 (λ e. omega arith) ∙ u.starts i j
        starts_at i (inr j) g =
            let z : f ≡ i = omega arith in
            subst (λ (x : ℕ). get_or (set begins f n) x 0 ≡ start_of p.functions x) z (get_or-set_same begins f n 0 room ∙ u.here)

        over_at : (i : ℕ) → (i < f) ⊎ (f ≤ i) → i < f + 1 → NotedOverBody p.types p.functions notes' (fun_at p.functions i) (start_of p.functions i)
        over_at i (inl j) g =
            let a = start_after p.functions i f j (let w = within in omega arith) in
            let o = u.here in
            kept p.types p.functions notes notes' (omega arith) (fun_at p.functions i).body (start_of p.functions i) (fun_at p.functions i).params
            (offsets 0 (fun_at p.functions i).params) (widths (fun_at p.functions i).params) (fun_at p.functions i).result
            (λ x d y z. b.earlier x d (omega arith)) (u.words i j)
        over_at i (inr j) g =
            let z : f ≡ i = omega arith in
            subst (λ (x : ℕ). NotedOverBody p.types p.functions notes' (fun_at p.functions x) (start_of p.functions x)) z
            (subst (NotedOverBody p.types p.functions notes' (fun_at p.functions f)) u.here b.noted)

  pub upto_all : length (take l.functions l.signatures) ≤ f → (program_verdict p ≡ fine tt) × Bodies p.types p.functions notes begins × BodiesOver p.types p.functions notes
  upto_all k =
      let m = (held l p h).many in (
        u.verdict ∙ ap (λ (x : List Fun). bodies_verdict p.functions x n) (drop_all f p.functions (omega arith)),
        record {
          starts = λ i j. u.starts i (omega arith);
          noted = λ i j. over_noted_body p.types p.functions notes (fun_at p.functions i) (start_of p.functions i) (u.words i (omega arith));
        },
        record { words = λ i j. u.words i (omega arith) },
      )

-- ---- admission

pub read_refused : (bs : List ℕ) (f : Fault) → Reads bs (Err f) → admission bs ≡ Err f
read_refused bs f r = ap admitted r.0 ∙ ap (λ x. Err (record { refusal = f.refusal; place = f.place; part = x })) (sym r.1)

pub judged_admits : (bs : List ℕ) (p : Program) (q : ℕ) → scanned_table bs ≡ done p q → (r : Result Table Fault) → AnswersListing p r → Admits bs r
judged_admits bs p q e (Ok t) a = (p, ap admitted e ∙ ap (judged p) a.0, a.1)
judged_admits bs p q e (Err f) a =
    ap admitted e ∙ ap (judged p) a.verdict ∙ ap (λ x. Err (record { refusal = f.refusal; place = f.place; part = x })) (sym a.part)

pub judged_over : (bs : List ℕ) (p : Program) (q : ℕ) → scanned_table bs ≡ done p q → (r : Result Table Fault) → AnswersListing p r → AdmitsOver bs r
judged_over bs p q e (Ok t) a = λ p' h.
    let s : admission bs ≡ Ok p = ap admitted e ∙ ap (judged p) a.0 in
    let u : p ≡ p' = cc in
    subst (λ (x : Program). TellsOver t x) u a.2
judged_over bs p q e (Err f) a = tt
