-- What passes the judge: an expression by its parts and arms, and several by the first and the rest.
use Rattle.std.proofs.Common.{◌≡◌, ℕ, suc, ◌+◌, ◌-◌, ◌*◌, ◌<◌, ◌≤◌, Bool, true, false, not, ◌&&◌, ◌||◌, ◌⊎◌, List, [], ◌∷◌, ◌++◌, map, length, get_or, take, set, replicate, sym, refl, ap, ◌∙◌, subst, ap₂, inl, inr, append_assoc, append-nil, arith, length-set, length-take}
use lib.Bits.{bit_or, bit_and}
use lib.ListN.{length-map, length-replicate}
use Rattle.std.proofs.lemmas.List.{get_or-set_same, get_or-set_other}
use Rattle.std.proofs.lemmas.Bool.{and_parts, cases_eq}
use Rattle.codec.specs.declared.fault.Fault.{Fault}
use Rattle.codec.specs.declared.fault.Refusal.{Refusal}
use Rattle.lfpl.proofs.SameTypes.{same_eq}
use Rattle.lfpl.specs.Judge.{Verdict, fine, faulty, judge, exprs_verdict, arms_verdict, shares}
use Rattle.lfpl.specs.Reading.{shape}
use Rattle.lfpl.specs.Syntax.{Ty, width, same_ty, Head, var, Expr, Exprs, expr, end, ◌then◌, size, sizes, Fun}
use Rattle.lfpl.specs.Typing.{rule, fits, early, alike, type_at, same_tys}
use Rattle.tables.specs.Listed.{AllStand, InRange, head_of}
use Rattle.tables.specs.declared.listing.Listing.{Listing}
use Rattle.tables.specs.declared.listing.Node.{Node}
use Rattle.tables.specs.declared.listing.Signature.{Signature}
use Rattle.typing.specs.Codes.{Typed, Coded, CodedAll, Encodes, slot_type, slot_types}
use Rattle.judge.specs.Judging.{listed_nodes, arms_from, counted, Posed, Poses, PosesAll, PosesArms, Passed, PassedAll, Earlier, Faulted, ArmsNoted}
use Rattle.judge.specs.Over.{NotedOverAt, NotedOver, NotedOverAll, NotedOverArms}
use Rattle.judge.specs.Notes.{note_at, offsets, widths}
use Rattle.typing.specs.Rules.{Agrees, Says, Basis, Short, AllShort, Known, subject, wanted, parts_of, asked, bound, names_of}
use Rattle.typing.specs.Scopes.{Scopes, mask, masks, twice, head_mask}
use Rattle.typing.specs.declared.codes.Code as C
use Rattle.typing.specs.declared.codes.Code.TheVariants as Code
use Rattle.typing.specs.declared.codes.Slot as S
use Rattle.judge.specs.declared.judge.Found.{Found}
use Rattle.judge.specs.declared.judge.Several.{Several}
use Rattle.typing.specs.declared.rules.About as A
use Rattle.typing.specs.declared.rules.About.TheVariants as About
use Rattle.typing.specs.declared.rules.Rule.{Rule}
use Rattle.typing.specs.declared.scope.Scope.{Scope}
use Rattle.judge.specs.declared.table.Note.{Note}
use Rattle.typing.proofs.Coding.{coded_push}
use Rattle.judge.proofs.Noting.{kept, kept_all, kept_arms}
use Rattle.typing.proofs.Ruling.{arity_is}
use Rattle.judge.proofs.Standing.{extent, extent_all, stand_count, no_node, AtNode, at_node, at_first, parts_first, arms_first, no_slots, short_at, bound_length, in_scope, stands_small, all_at}
use Rattle.judge.proofs.Verdicts.{all_judged, arms_judged}

-- ---- widths

pub code_narrow : (l : Listing) (ts : List Ty) → Typed l ts → (c : C.Code) (A : Ty) → Coded ts c A → width A ≤ 16
code_narrow l ts t Code.Number A h = let e = ap width h in omega arith
code_narrow l ts t Code.Diamond A h = let e = ap width h in omega arith
code_narrow l ts t (Code.Listed i) A h = let e = ap width h.1 in let n = t.types.narrow i h.0 in omega arith

pub row_narrow : (l : Listing) (ts : List Ty) → Typed l ts → (cs : List C.Code) (As : List Ty) → CodedAll ts cs As → widths As ≤ 16 * length cs
row_narrow l ts t [] [] h = omega arith
row_narrow l ts t [] (A ∷ As) h = absurd h
row_narrow l ts t (c ∷ cs) [] h = absurd h
row_narrow l ts t (c ∷ cs) (A ∷ As) h =
    let p = code_narrow l ts t c A h.0 in
    let q = row_narrow l ts t cs As h.1 in
    omega arith

-- codes of no types
pub no_row : (ts : List Ty) (cs : List C.Code) → cs ≡ [] → CodedAll ts cs []
no_row ts cs e = subst (λ (ds : List C.Code). CodedAll ts ds []) (sym e) tt

-- one code more
pub row_more : (ts : List Ty) (cs cs' : List C.Code) (As : List Ty) (c : C.Code) (A : Ty) → cs' ≡ cs ++ c ∷ [] → CodedAll ts cs As → Coded ts c A → CodedAll ts cs' (As ++ A ∷ [])
row_more ts cs cs' As c A e h k = subst (λ (ds : List C.Code). CodedAll ts ds (As ++ A ∷ [])) (sym e) (coded_push ts cs As c A h k)

-- ---- an expression

known_more : (ts : List Ty) (fs : List Fun) (Γ : List Ty) (a : A.About) (s : List S.Slot) (m : ℕ) → m ≡ parts_of fs a s → Known ts fs Γ a (length s) → Known ts fs Γ a m
known_more ts fs Γ About.Nothing s m e k = tt
known_more ts fs Γ (About.Listed v) s m e k = k
known_more ts fs Γ (About.Part i) s m e k = omega arith
known_more ts fs Γ (About.Variable v) s m e k = k
known_more ts fs Γ (About.Result v) s m e k = k

few_parts : (l : Listing) (ts : List Ty) (fs : List Fun) → Basis l ts fs → (Γ : List Ty) (a : A.About) (s : List S.Slot) → Short s → Known ts fs Γ a (length s) → parts_of fs a s ≤ 6
few_parts l ts fs b Γ About.Nothing s h k = omega arith
few_parts l ts fs b Γ (About.Listed v) s h k = omega arith
few_parts l ts fs b Γ (About.Part i) s h k = omega arith
few_parts l ts fs b Γ (About.Variable v) s h k = omega arith
few_parts l ts fs b Γ (About.Result v) s h k =
    let d : Signature = record { params = []; arity = 0; result = 0 } in
    let g = b.signed v d k in
    let n = arity_is ts _ _ g in
    let f = g.few in
    omega arith

map_map : {X Y Z : Type 0} (f : Y → Z) (g : X → Y) (xs : List X) → map f (map g xs) ≡ map (λ (x : X). f (g x)) xs
map_map f g [] = refl
map_map f g (x ∷ xs) = ap (λ (l : List _). f (g x) ∷ l) (map_map f g xs)

-- what is asked of a rule here: what `Agrees` says of the expression itself, and nothing of others of its kind
pub record AgreesAt (x : Node) (r : Rule) : Type 0 where
  pub says : (ts : List Ty) (fs : List Fun) (Γ As : List Ty) → InRange x.kind (names_of ts fs) (length Γ) x.number → Says ts fs Γ As (head_of ts x) r
  pub two : r.arms ≤ 2
  pub full : length r.binds ≡ 2
  pub short : AllShort (r.wants.now ∷ bound r)

-- the rules of the table give that
pub at_itself : (x : Node) (r : Rule) → Agrees x r → AgreesAt x r
at_itself x r a = record { says = a.says; two = a.two; full = a.full; short = a.short }

module _ (l : Listing) (s : Scope) (n : ℕ) (ts : List Ty) (fs : List Fun) (Γ : List Ty) (ps : List ℕ) (e : Expr) (j : ℕ) (P : Poses l s n ts fs Γ ps e j)
    (x : Node) (N : AtNode ts fs (listed_nodes l) x (length Γ) n e j) where
  pub inside : (n < l.expressions) × (n < 512)
  inside =
      let i = N.inside in
      let m = length-take l.expressions l.nodes in
      let b = P.basis.short in
      (omega arith, omega arith)

  pub middle_is : (N.middle ≡ n + 1 + sizes N.parts) × (n < N.middle) × (N.middle ≤ l.expressions)
  middle_is =
      let p = extent_all (names_of ts fs) (listed_nodes l) N.parts_stand in
      let m = length-take l.expressions l.nodes in
      (omega arith, omega arith, omega arith)

  pub end_is : (j ≡ N.middle + sizes N.arms) × (j ≤ l.expressions)
  end_is =
      let p = extent_all (names_of ts fs) (listed_nodes l) N.arms_stand in
      let m = length-take l.expressions l.nodes in
      (omega arith, omega arith)

  module _ (r : Rule) (ag : AgreesAt x r) where
    says : (As : List Ty) → Says ts fs Γ As (head_of ts x) r
    says As = ag.says ts fs Γ As N.range

    pub known_parts : Known ts fs Γ r.about (length r.wants.now)
    known_parts = (says []).known

    module _ (c : ℕ) (is : c ≡ parts_of fs r.about r.wants.now) where
      pub parts_few : c ≤ 6
      parts_few = let f = few_parts l ts fs P.basis Γ r.about r.wants.now ag.short.0 (says []).known in omega arith

      pub parts_posed : PosesAll l s (replicate c (length Γ)) (n + 1) ts fs Γ ps N.parts N.middle
      parts_posed = record {
        basis = P.basis;
        scope = P.scope;
        stand = subst (λ (m : ℕ). AllStand (names_of ts fs) (listed_nodes l) (replicate m (length Γ)) (n + 1) N.parts N.middle) ((says []).parts ∙ sym is) N.parts_stand;
      }

      -- the parts have the types As
      module _ (As : List Ty) (many : length As ≡ counted N.parts) where
        as_many : length As ≡ parts_of fs r.about r.wants.now
        as_many =
            many ∙ stand_count (names_of ts fs) (listed_nodes l) N.parts_stand
            ∙ length-replicate (shape (names_of ts fs).arities (head_of ts x)).parts (length Γ) ∙ (says []).parts

        pub known_subject : Known ts fs Γ r.about (length As)
        known_subject = known_more ts fs Γ r.about r.wants.now (length As) as_many (says []).known

    module _ (As : List Ty) where
      T : Ty
      T = subject ts fs Γ As r.about

      -- the test f is the rule's
      module _ (f : Bool) (f_is : f ≡ (asked r.form (subject ts fs Γ As r.about) && same_tys As (wanted fs r.about r.wants.now (subject ts fs Γ As r.about)))) where
        pub fit_is : f ≡ fits (rule fs Γ (head_of ts x) As) As
        fit_is = f_is ∙ sym (says As).fit

        pub early_unfit : (r.early && not f) ≡ true → (early (head_of ts x) ≡ true) × (fits (rule fs Γ (head_of ts x) As) As ≡ false)
        early_unfit h =
            let q = and_parts r.early (not f) h in
            ((says As).early ∙ q.0, sym fit_is ∙ Rattle.std.proofs.lemmas.Bool.not-true f q.1)

        module _ (late : (r.early && not f) ≡ false) where
          fit_early : r.early ≡ true → f ≡ true
          fit_early h = go f (sym (ap (λ (b : Bool). b && not f) h) ∙ late)
            where
              go : (b : Bool) → (true && not b) ≡ false → b ≡ true
              go true h = refl
              go false h = absurd (Rattle.std.proofs.lemmas.Bool.true≢false h)

          pub arms_agree : (rule fs Γ (head_of ts x) As).arms ≡ map (slot_types (subject ts fs Γ As r.about)) (arms_from r 0)
          arms_agree = (says As).arms (λ h. (and_parts _ _ (sym f_is ∙ fit_early h)).0)

          pub goes_on : (not (early (head_of ts x)) || fits (rule fs Γ (head_of ts x) As) As) ≡ true
          goes_on = ap₂ (λ (a b : Bool). not a || b) (says As).early (sym fit_is) ∙ go r.early fit_early
            where
              go : (b : Bool) → (b ≡ true → f ≡ true) → (not b || f) ≡ true
              go true h = h refl
              go false h = refl

        pub arms_posed : (c : C.Code) (k : ℕ) → Coded ts c (subject ts fs Γ As r.about) → k ≡ N.middle
            → PosesArms l s r c 0 k ts fs Γ ps (subject ts fs Γ As r.about) N.arms j
        arms_posed c k h e = record {
          all = record {
            basis = P.basis;
            scope = P.scope;
            stand = all_at (names_of ts fs) (listed_nodes l) (map (λ (y : List S.Slot). length Γ + length y) (arms_from r 0)) N.arms e
                (subst (λ (y : List ℕ). AllStand (names_of ts fs) (listed_nodes l) y N.middle N.arms j)
                (ap (map (λ (b : ℕ). length Γ + b)) (says As).binds ∙ map_map (λ (b : ℕ). length Γ + b) (λ (y : List S.Slot). length y) (take r.arms (bound r))) N.arms_stand);
          };
          code = h;
          full = ag.full;
          short = ag.short.1;
        }

      -- the arms have the types Bs
      module _ (Bs : List Ty) (many : length Bs ≡ counted N.arms) where
        pub arms_many : length Bs ≡ r.arms
        arms_many =
            let p = stand_count (names_of ts fs) (listed_nodes l) N.arms_stand in
            let q = length-map (shape (names_of ts fs).arities (head_of ts x)).arms (λ (b : ℕ). length Γ + b) in
            let t = ap length (says As).binds in
            let u = length-map (take r.arms (bound r)) (λ (y : List S.Slot). length y) in
            let v = length-take r.arms (bound r) in
            let b = length-map r.binds (λ b. b.now) in
            let w = ag.full in
            let z = ag.two in
            omega arith

        -- the code of the whole
        pub whole_coded : (c : C.Code) → (r.arms ≡ 0 → Coded ts c (slot_type (subject ts fs Γ As r.about) r.whole)) → (1 ≤ r.arms → Coded ts c (type_at Bs 0))
            → Coded ts c ((rule fs Γ (head_of ts x) As).whole (type_at Bs 0))
        whole_coded c f g = go (cases_eq r.arms 0)
          where
            go : (r.arms ≡ 0) ⊎ (r.arms ≡ 0 → ⊥) → Coded ts c ((rule fs Γ (head_of ts x) As).whole (type_at Bs 0))
            go (inl h) = subst (Coded ts c) (sym ((says As).whole (type_at Bs 0) h)) (f h)
            go (inr h) = let k : 1 ≤ r.arms = omega arith in subst (Coded ts c) (sym ((says As).chosen (type_at Bs 0) k)) (g k)

-- where an expression that is asked for stands
pub posed_inside : (l : Listing) (s : Scope) (n : ℕ) → Posed l s n → (n < l.expressions) × (n < 512)
posed_inside l s n q = inside l s n q.ts q.fs q.Γ q.ps q.e q.j q.is _ (at_node l q.ts q.fs no_node q.is.stands)

-- everything is settled: the note is written, and the expression passes
pub passes : (ts : List Ty) (fs : List Fun) (Γ : List Ty) (ps : List ℕ) (over n j m : ℕ) (e : Expr) (h : Head) (es qs : Exprs) → e ≡ expr h es qs → m ≡ n + 1 + sizes es → j ≡ m + sizes qs
    → (As Bs : List Ty) (bs : List (List Ty)) (notes notes₁ notes₂ : List Note) → (rule fs Γ h As).arms ≡ bs → length notes₁ ≡ length notes₂ → n < length notes₂
    → NotedOverAll ts fs notes₁ es (n + 1) Γ ps over As → Earlier (n + 1) notes notes₁ → ArmsNoted ts fs notes₂ qs m bs Γ ps over Bs → Earlier m notes₁ notes₂
    → fits (rule fs Γ h As) As ≡ true → alike (type_at Bs 0) Bs ≡ true → shares 0 Γ es qs ≡ false
    → judge fs e n Γ ≡ fine ((rule fs Γ h As).whole (type_at Bs 0))
    → (c : C.Code) (o p mp mq : ℕ) → Coded ts c ((rule fs Γ h As).whole (type_at Bs 0)) → o ≡ head_mask h → mp ≡ masks es → mq ≡ masks qs → ((i : ℕ) → h ≡ var i → p ≡ get_or ps i 0)
    → (k : ℕ) → k ≡ j → over ≤ 49152 → Passed ts fs Γ ps over n e j notes (set notes₂ n (record { code = c; end = k; place = p; over = over })) (record { code = c; mask = bit_or o (bit_or mp mq); end = k })
passes ts fs Γ ps over n j m e h es qs is at_m at_j As Bs bs notes notes₁ notes₂ agree long inside all before arms before₂ fit same apart verdict c o p mp mq code own mps mqs place k ends low =
    record {
      type = (rule fs Γ h As).whole (type_at Bs 0);
      typed = verdict;
      code = code;
      occur = ap₂ bit_or own (ap₂ bit_or mps mqs) ∙ ap mask (sym is);
      ends = ends;
      noted = noted;
      earlier = λ i d l. other i d (omega arith) ∙ before₂ i d (omega arith) ∙ before i d (omega arith);
    }
  where
    note : Note
    note = record { code = c; end = k; place = p; over = over }

    notes₃ : List Note
    notes₃ = set notes₂ n note

    other : (i : ℕ) (d : Note) → (i ≡ n → ⊥) → get_or notes₃ i d ≡ get_or notes₂ i d
    other i d l = get_or-set_other notes₂ n i note d l

    here : note_at notes₃ n ≡ note
    here = get_or-set_same notes₂ n note _ inside

    at : NotedOverAt ts fs notes₃ n h es qs Γ ps over As (type_at Bs 0) ((rule fs Γ h As).whole (type_at Bs 0))
    at = record {
      noted = record {
        inside = let q = length-set notes₂ n note in omega arith;
        code = subst (λ (y : Note). Coded ts y.code ((rule fs Γ h As).whole (type_at Bs 0))) (sym here) code;
        ends = ap (λ (y : Note). y.end) here ∙ ends ∙ (let z : j ≡ n + (1 + (sizes es + sizes qs)) = omega arith in z);
        place = λ i q. ap (λ (y : Note). y.place) here ∙ place i q;
        fit = fit;
        whole = refl;
        apart = apart;
      };
      over = ap (λ (y : Note). y.over) here;
      few = low;
    }

    noted : NotedOver ts fs notes₃ e n Γ ps over ((rule fs Γ h As).whole (type_at Bs 0))
    noted =
        subst (λ (x : Expr). NotedOver ts fs notes₃ x n Γ ps over ((rule fs Γ h As).whole (type_at Bs 0))) (sym is) (
          As,
          type_at Bs 0,
          at,
          kept_all ts fs notes₁ notes₃ (let q = length-set notes₂ n note in omega arith) es (n + 1) Γ ps over As
              (λ i d l u. other i d (omega arith) ∙ before₂ i d (omega arith)) all,
          subst (λ (y : List (List Ty)). NotedOverArms ts fs notes₃ qs (n + 1 + sizes es) y Γ ps over (type_at Bs 0)) (sym agree)
              (subst (λ (y : ℕ). NotedOverArms ts fs notes₃ qs y bs Γ ps over (type_at Bs 0)) at_m
              (kept_arms ts fs notes₂ notes₃ (let q = length-set notes₂ n note in omega arith) qs m bs Γ ps over (type_at Bs 0)
              (λ i d l u. other i d (omega arith)) (arms (type_at Bs 0) same))),
        )

-- the test of the types
pub settled_is : (fit fitting same s r : Bool) → fit ≡ fitting → s ≡ (fit && same) → s ≡ r → (fitting && same) ≡ r
settled_is fit fitting same s r p q e = ap (λ (b : Bool). b && same) (sym p) ∙ sym q ∙ e

-- the test of the masks
pub shared_test : (r s : Bool) (b : Bool) → r ≡ not b → b ≡ not s → r ≡ s
shared_test r s b p q = p ∙ ap not q ∙ twice_not s
  where
    twice_not : (s : Bool) → not (not s) ≡ s
    twice_not true = refl
    twice_not false = refl

pub faulted_by : {X Y : Type 0} {v : Verdict X} {w : Verdict Y} {f : Fault} → Faulted v f → ((r : Refusal) (i : ℕ) → v ≡ faulty r i → w ≡ faulty r i) → Faulted w f
faulted_by {f = f} F g = record { verdict = g f.refusal f.place F.verdict; part = F.part }

-- ---- the first of several, and the others

pub record FirstPart (l : Listing) (s : Scope) (c n : ℕ) (ts : List Ty) (fs : List Fun) (Γ : List Ty) (ps : List ℕ) (es : Exprs) (j : ℕ) : Type 0 where
  pub first : Expr
  pub rest : Exprs
  pub middle : ℕ
  pub is : es ≡ first then rest
  pub ends : middle ≡ n + size first
  pub later : n < middle
  pub within : middle ≤ l.expressions
  pub posed : Poses l s n ts fs Γ ps first middle
  pub others : (k : ℕ) → k ≡ middle → PosesAll l s (replicate (c - 1) (length Γ)) k ts fs Γ ps rest j

pub first_part : (l : Listing) (s : Scope) (c n : ℕ) (ts : List Ty) (fs : List Fun) (Γ : List Ty) (ps : List ℕ) (es : Exprs) (j : ℕ)
    → PosesAll l s (replicate c (length Γ)) n ts fs Γ ps es j → (c ≡ 0 → ⊥) → FirstPart l s c n ts fs Γ ps es j
first_part l s c n ts fs Γ ps es j P some =
    let F = at_first (names_of ts fs) (listed_nodes l) (length Γ) (replicate (c - 1) (length Γ)) _ (parts_first c (length Γ) some) P.stand in
    let x = extent (names_of ts fs) (listed_nodes l) F.first_stands in
    let t = length-take l.expressions l.nodes in
    record {
      first = F.first;
      rest = F.rest;
      middle = F.middle;
      is = F.is;
      ends = x.0;
      later = x.1;
      within = omega (arith, x.2);
      posed = record { basis = P.basis; scope = P.scope; stands = F.first_stands };
      others = λ k e. record { basis = P.basis; scope = P.scope; stand = all_at (names_of ts fs) (listed_nodes l) (replicate (c - 1) (length Γ)) F.rest e F.rest_stand };
    }

-- the types of the variables that the arm a binds, where the rule is about the type A
abbrev pub arm_types : Rule → ℕ → Ty → List Ty
arm_types r a A = slot_types A (get_or r.binds a no_slots).now

pub record FirstArm (l : Listing) (s : Scope) (r : Rule) (c : C.Code) (a n : ℕ) (ts : List Ty) (fs : List Fun) (Γ : List Ty) (ps : List ℕ) (A : Ty) (es : Exprs) (j : ℕ) : Type 0 where
  pub first : Expr
  pub rest : Exprs
  pub middle : ℕ
  pub is : es ≡ first then rest
  pub ends : middle ≡ n + size first
  pub later : n < middle
  pub within : middle ≤ l.expressions
  pub short : Short (get_or r.binds a no_slots).now
  pub few : length (arm_types r a A) ≤ 5
  pub room : length Γ + length (arm_types r a A) ≤ 32
  pub binds : map (slot_types A) (arms_from r a) ≡ arm_types r a A ∷ map (slot_types A) (arms_from r (a + 1))
  pub posed : (s' : Scope) (ps' : List ℕ) → Scopes ts s' (Γ ++ arm_types r a A) ps' → Poses l s' n ts fs (Γ ++ arm_types r a A) ps' first middle
  pub others : (k : ℕ) → k ≡ middle → PosesArms l s r c (a + 1) k ts fs Γ ps A rest j

pub first_arm : (l : Listing) (s : Scope) (r : Rule) (c : C.Code) (a n : ℕ) (ts : List Ty) (fs : List Fun) (Γ : List Ty) (ps : List ℕ) (A : Ty) (es : Exprs) (j : ℕ)
    → PosesArms l s r c a n ts fs Γ ps A es j → r.arms ≤ 2 → a < r.arms → FirstArm l s r c a n ts fs Γ ps A es j
first_arm l s r c a n ts fs Γ ps A es j P two some =
    let b = (get_or r.binds a no_slots).now in
    let z = arms_first r P.full two a no_slots some in
    let counts = map (λ (y : List S.Slot). length Γ + length y) (arms_from r (a + 1)) in
    let F = at_first (names_of ts fs) (listed_nodes l) (length Γ + length b) counts _ (ap (map (λ (y : List S.Slot). length Γ + length y)) z) P.all.stand in
    let x = extent (names_of ts fs) (listed_nodes l) F.first_stands in
    let t = length-take l.expressions l.nodes in
    let short = short_at r.binds a no_slots P.short (omega (arith, P.full, two, some)) in
    let few : length b ≤ 5 = short in
    let many = bound_length A b in
    let small = stands_small (names_of ts fs) (listed_nodes l) F.first_stands in
    record {
      first = F.first;
      rest = F.rest;
      middle = F.middle;
      is = F.is;
      ends = x.0;
      later = x.1;
      within = omega (arith, x.2);
      short = short;
      few = omega arith;
      room = omega arith;
      binds = ap (map (slot_types A)) z;
      posed = λ s' ps' I. record { basis = P.all.basis; scope = I; stands = in_scope Γ _ many F.first_stands };
      others = λ k e. record {
        all = record { basis = P.all.basis; scope = P.all.scope; stand = all_at (names_of ts fs) (listed_nodes l) counts F.rest e F.rest_stand };
        code = P.code;
        full = P.full;
        short = P.short;
      };
    }

-- what is said of a scope is said of its copy
pub scope_copied : {ts Γ : List Ty} {ps : List ℕ} {s s' : Scope} → s' ≡ s → Scopes ts s Γ ps → Scopes ts s' Γ ps
scope_copied {ts} {Γ} {ps} same h = subst (λ (x : Scope). Scopes ts x Γ ps) (sym same) h

-- ---- several that pass

pub no_arms_noted : (ts : List Ty) (fs : List Fun) (notes : List Note) (es : Exprs) (n : ℕ) (l : List (List Ty)) (Γ : List Ty) (ps : List ℕ) (over : ℕ) → es ≡ end → l ≡ []
    → ArmsNoted ts fs notes es n l Γ ps over []
no_arms_noted ts fs notes es n l Γ ps over p q = λ B h.
    subst (λ (x : Exprs). NotedOverArms ts fs notes x n l Γ ps over B) (sym p) (subst (λ (x : List (List Ty)). NotedOverArms ts fs notes end n x Γ ps over B) (sym q) tt)

both_masks : (a b : ℕ) (e : Expr) (rest es : Exprs) → es ≡ e then rest → a ≡ mask e → b ≡ masks rest → bit_or a b ≡ masks es
both_masks a b e rest es is p q = ap₂ bit_or p q ∙ ap masks (sym is)

both_twice : (a b t : ℕ) (e : Expr) (rest es : Exprs) → es ≡ e then rest → a ≡ mask e → b ≡ masks rest → t ≡ twice rest → bit_or (bit_and a b) t ≡ twice es
both_twice a b t e rest es is p q r = ap₂ bit_or (ap₂ bit_and p q) r ∙ ap twice (sym is)

pub regroup : (xs : List Ty) (A : Ty) (ys : List Ty) → (xs ++ A ∷ []) ++ ys ≡ xs ++ A ∷ ys
regroup xs A ys = append_assoc xs (A ∷ []) ys

pub none_pass : (ts before : List Ty) (v : Verdict (List Ty)) (es : Exprs) (n j : ℕ) (Holding : List Ty → Type 0) (notes : List Note) (r : Several)
    → es ≡ end → j ≡ n → v ≡ fine [] → Holding [] → Encodes ts r.row before → r.mask ≡ 0 → r.twice ≡ 0 → r.end ≡ n → PassedAll ts before v es n j Holding notes notes r
none_pass ts before v es n j Holding notes r is at typed holding row m t e = record {
  types = [];
  typed = typed;
  row = subst (Encodes ts r.row) (sym (append-nil before)) row;
  occur = m ∙ ap masks (sym is);
  again = t ∙ ap twice (sym is);
  ends = e ∙ sym at;
  many = ap counted (sym is);
  noted = holding;
  earlier = λ i d l. refl;
}

module _ (ts : List Ty) (fs : List Fun) (Γ : List Ty) (ps : List ℕ) (before : List Ty) (n k j over : ℕ) (e : Expr) (rest es : Exprs) (notes notes₁ notes₂ : List Note) (f : Found) (r : Several)
    (is : es ≡ e then rest) (ends : k ≡ n + size e) (long : length notes₁ ≡ length notes₂) where
  -- the first of several parts, and then the rest
  pub parts_pass : (over' : ℕ) (P : Passed ts fs Γ ps over n e k notes notes₁ f) → over' ≡ over + width P.type
      → PassedAll ts (before ++ P.type ∷ []) (exprs_verdict fs rest f.end Γ) rest f.end j (λ As. NotedOverAll ts fs notes₂ rest f.end Γ ps over' As) notes₁ notes₂ r
      → PassedAll ts before (exprs_verdict fs es n Γ) es n j (λ As. NotedOverAll ts fs notes₂ es n Γ ps over As) notes notes₂
      (record { row = r.row; mask = bit_or f.mask r.mask; twice = bit_or (bit_and f.mask r.mask) r.twice; end = r.end })
  parts_pass over' P o R =
      let q : f.end ≡ n + size e = P.ends ∙ ends in
      record {
        types = P.type ∷ R.types;
        typed = all_judged fs Γ n f.end e rest es is q P.type R.types P.typed R.typed;
        row = subst (Encodes ts r.row) (regroup before P.type R.types) R.row;
        occur = both_masks f.mask r.mask e rest es is P.occur R.occur;
        again = both_twice f.mask r.mask r.twice e rest es is P.occur R.occur R.again;
        ends = R.ends;
        many = (let m = R.many in let z : suc (length R.types) ≡ 1 + counted rest = omega arith in z) ∙ ap counted (sym is);
        noted = subst (λ (x : Exprs). NotedOverAll ts fs notes₂ x n Γ ps over (P.type ∷ R.types)) (sym is) (
          kept ts fs notes₁ notes₂ (omega arith) e n Γ ps over P.type (λ i d l u. R.earlier i d (omega arith)) P.noted,
          subst (λ (x : ℕ). NotedOverAll ts fs notes₂ rest x Γ ps (over + width P.type) R.types) q
              (subst (λ (x : ℕ). NotedOverAll ts fs notes₂ rest f.end Γ ps x R.types) o R.noted),
        );
        earlier = λ i d l. R.earlier i d (omega arith) ∙ P.earlier i d l;
      }

  -- the first of several arms, which binds variables of the types b, and then the rest
  pub arms_pass : (w over' : ℕ) (b : List Ty) (bs bss : List (List Ty)) → bss ≡ b ∷ bs → over' ≡ over + widths b
      → (P : Passed ts fs (Γ ++ b) (ps ++ offsets over b) over' n e k notes notes₁ f)
      → PassedAll ts (before ++ P.type ∷ []) (arms_verdict fs rest bs w f.end Γ) rest f.end j (ArmsNoted ts fs notes₂ rest f.end bs Γ ps over) notes₁ notes₂ r
      → PassedAll ts before (arms_verdict fs es bss w n Γ) es n j (ArmsNoted ts fs notes₂ es n bss Γ ps over) notes notes₂
      (record { row = r.row; mask = bit_or f.mask r.mask; twice = bit_or (bit_and f.mask r.mask) r.twice; end = r.end })
  arms_pass w over' b bs bss binds o P R =
      let q : f.end ≡ n + size e = P.ends ∙ ends in
      record {
        types = P.type ∷ R.types;
        typed = arms_judged fs Γ w n f.end e rest es b bs bss is binds q P.type R.types P.typed R.typed;
        row = subst (Encodes ts r.row) (regroup before P.type R.types) R.row;
        occur = both_masks f.mask r.mask e rest es is P.occur R.occur;
        again = both_twice f.mask r.mask r.twice e rest es is P.occur R.occur R.again;
        ends = R.ends;
        many = (let m = R.many in let z : suc (length R.types) ≡ 1 + counted rest = omega arith in z) ∙ ap counted (sym is);
        noted = λ B same.
            let t = and_parts (same_ty B P.type) (alike B R.types) same in
            subst (λ (x : Exprs). NotedOverArms ts fs notes₂ x n bss Γ ps over B) (sym is)
            (subst (λ (x : List (List Ty)). NotedOverArms ts fs notes₂ (e then rest) n x Γ ps over B) (sym binds) (
              subst (λ (X : Ty). NotedOver ts fs notes₂ e n (Γ ++ b) (ps ++ offsets over b) (over + widths b) X) (sym (same_eq B P.type t.0))
                  (subst (λ (x : ℕ). NotedOver ts fs notes₂ e n (Γ ++ b) (ps ++ offsets over b) x P.type) o
                  (kept ts fs notes₁ notes₂ (omega arith) e n (Γ ++ b) (ps ++ offsets over b) over' P.type (λ i d l u. R.earlier i d (omega arith)) P.noted)),
              subst (λ (x : ℕ). NotedOverArms ts fs notes₂ rest x bs Γ ps over B) q (R.noted B t.1),
            ));
        earlier = λ i d l. R.earlier i d (omega arith) ∙ P.earlier i d l;
      }

-- a body over its parameters
pub body_noted : (ts : List Ty) (fs : List Fun) (notes : List Note) (e : Expr) (n : ℕ) (Γ : List Ty) (z w : ℕ) (A B : Ty) → z ≡ 0 → w ≡ widths Γ → A ≡ B
    → NotedOver ts fs notes e n Γ (offsets z Γ) w A → NotedOver ts fs notes e n Γ (offsets 0 Γ) (widths Γ) B
body_noted ts fs notes e n Γ z w A B p q r t =
    subst (λ (x : ℕ). NotedOver ts fs notes e n Γ (offsets x Γ) (widths Γ) B) p
    (subst (λ (x : ℕ). NotedOver ts fs notes e n Γ (offsets z Γ) x B) q (subst (λ (X : Ty). NotedOver ts fs notes e n Γ (offsets z Γ) w X) r t))
