-- Code that is made of an admitted table stands for the program that the table carries.
use Rattle.std.proofs.Common.{◌≡◌, ℕ, zero, suc, ◌+◌, ◌%◌, ◌<◌, ◌≤◌, Bool, true, false, cond, List, [], ◌∷◌, ◌++◌, map, length, get_or, take, sym, refl, ap, ◌∙◌, subst, arith, length-take}
use lib.ListN.{length-map}
use Rattle.std.proofs.lemmas.List.{get_or-take}
use Rattle.std.specs.List.{AllByRecursion}
use Rattle.code.specs.Nodes.{no_node, node_at}
use Rattle.code.specs.Standing as standing
use Rattle.code.specs.Standing.{Narrow, Sits, Encodes}
use Rattle.code.specs.declared.Code.{Code}
use Rattle.judge.proofs.Bodied.{held}
use Rattle.judge.proofs.Standing.{extent, extent_all}
use Rattle.judge.specs.Admitting.{start_of, Carries, TellsOver}
use Rattle.judge.specs.Judging.{listed_nodes}
use Rattle.judge.specs.Over.{NotedOverAt, NotedOver, NotedOverAll, NotedOverArms}
use Rattle.judge.specs.Notes.{note_at}
use Rattle.judge.specs.declared.table.Note.{Note}
use Rattle.judge.specs.declared.table.Table.{Table}
use Rattle.lfpl.specs.Syntax.{Ty, width, var, call, Expr, Exprs, expr, end, ◌then◌, size, sizes, Fun, Program}
use Rattle.lfpl.specs.Typing.{type_at, fun_at, rule}
use Rattle.meaning.specs.Machine.{body_number}
use Rattle.tables.specs.Listed.{Stands, stands, AllStand, all_end, all_more, head_of, Numbers, Signs}
use Rattle.tables.specs.declared.listing.Listing.{Listing}
use Rattle.tables.specs.declared.listing.Node as L
use Rattle.tables.specs.declared.listing.Signature.{Signature}
use Rattle.typing.specs.Codes.{Coded, Typed}
use Rattle.typing.specs.Rules.{Basis, names_of, type_of}
use Rattle.typing.specs.Scopes.{widths, offsets}
use Rattle.typing.specs.declared.codes.Code as C
use Rattle.typing.specs.declared.codes.Code.TheVariants.{Number, Diamond, Listed}
use Rattle.assembler.proofs.Headed.{about_type, one_part, no_arms, few_parts, worked, called, number_is, apart}
use Rattle.assembler.proofs.Makes.{own}
use Rattle.assembler.specs.Making.{word_of, type_widths, is_choice_head, operation_by, listed_at, about_at, Made}

-- ---- numbers

pub word_is : (n : ℕ) → n < 65536 → word_of n ≡ n
word_is n h = omega arith

pub starts_same : (fs : List Fun) (f : ℕ) → start_of fs f ≡ body_number fs f
starts_same [] f = refl
starts_same (g ∷ fs) zero = refl
starts_same (g ∷ fs) (suc f) = ap (λ (n : ℕ). size g.body + n) (starts_same fs f)

-- the places of variables are below the words that an expression stands over
abbrev pub Low : List ℕ → ℕ → Type 0
Low ps over = (i : ℕ) → get_or ps i 0 ≤ over

low_more : (ps : List ℕ) (over more : ℕ) → over ≤ more → Low ps over → Low ps more
low_more ps over more h l i = let k = l i in omega arith

pub low_offsets : (over : ℕ) (As : List Ty) → Low (offsets over As) (over + widths As)
low_offsets over [] i = omega arith
low_offsets over (A ∷ As) zero = omega arith
low_offsets over (A ∷ As) (suc i) = let k = low_offsets (over + width A) As i in omega arith

low_append : (ps qs : List ℕ) (over : ℕ) → Low ps over → Low qs over → Low (ps ++ qs) over
low_append [] qs over p q i = q i
low_append (x ∷ ps) qs over p q zero = p 0
low_append (x ∷ ps) qs over p q (suc i) = low_append ps qs over (λ j. p (suc j)) q i

-- ---- types

pub coded_narrow : (l : Listing) (ts : List Ty) → Typed l ts → (c : C.Code) (A : Ty) → Coded ts c A → Narrow A
coded_narrow l ts t Number A h = subst Narrow (sym h) (record { low = omega arith; element = refl })
coded_narrow l ts t Diamond A h = subst Narrow (sym h) (record { low = omega arith; element = refl })
coded_narrow l ts t (Listed i) A h = subst Narrow h.1 (record { low = t.types.narrow i h.0; element = t.types.roomy i h.0 })

pub numbers_narrow : (l : Listing) (ts : List Ty) → Typed l ts → (ns : List ℕ) → Numbers ts ns → AllByRecursion Narrow (map (type_at ts) ns)
numbers_narrow l ts t [] h = tt
numbers_narrow l ts t (n ∷ ns) h = (record { low = t.types.narrow n h.0; element = t.types.roomy n h.0 }, numbers_narrow l ts t ns h.1)

pub params_narrow : (l : Listing) (ts : List Ty) → Typed l ts → (s : Signature) (g : Fun) → Signs ts s (type_of g)
    → (length g.params ≤ 6) × AllByRecursion Narrow g.params
params_narrow l ts t s g h =
    let e = ap length h.params in
    let m = length-map (take s.arity s.params) (type_at ts) in
    let k = length-take s.arity s.params in
    let f = h.few in
    (omega arith, subst (AllByRecursion Narrow) (sym h.params) (numbers_narrow l ts t (take s.arity s.params) h.numbers))

-- ---- expressions

module _ (t : Table) (ts : List Ty) (fs : List Fun) (code : Code) (basis : Basis t.listing ts fs) (made : (n : ℕ) → n < 512 → Made t n (node_at code n))
    (begins : (f : ℕ) → f < length fs → get_or t.starts (f % 32) 0 ≡ body_number fs f) (early : (f : ℕ) → f < length fs → body_number fs f < 512) where
  abbrev nodes : List L.Node
  nodes = listed_nodes t.listing

  abbrev notes : List Note
  notes = t.notes

  few_nodes : length nodes ≤ 512
  few_nodes = let m = length-take t.listing.expressions t.listing.nodes in let s = basis.short in omega arith

  few_params : (f : ℕ) → f < length fs → length (fun_at fs f).params ≤ 6
  few_params f h = (params_narrow t.listing ts basis.typed _ (fun_at fs f) (basis.signed f (record { params = []; arity = 0; result = 0 }) h)).0

  -- the types of parts that are noted
  parts_narrow : (es : Exprs) (n : ℕ) (Γ : List Ty) (ps : List ℕ) (over : ℕ) (As : List Ty) → NotedOverAll ts fs notes es n Γ ps over As → AllByRecursion Narrow As
  parts_narrow end n Γ ps over [] d = tt
  parts_narrow end n Γ ps over (A ∷ As) d = absurd d
  parts_narrow (e then es) n Γ ps over [] d = absurd d
  parts_narrow (expr h es qs then rest) n Γ ps over (A ∷ As) d =
      (coded_narrow t.listing ts basis.typed _ A d.0.2.noted.code, parts_narrow rest (n + size (expr h es qs)) Γ ps (over + width A) As d.1)

  -- the one part of a choice
  one_noted : (es : Exprs) (n : ℕ) (Γ : List Ty) (ps : List ℕ) (over : ℕ) (As : List Ty) → length As ≡ 1 → NotedOverAll ts fs notes es n Γ ps over As
      → Coded ts (note_at notes n).code (type_at As 0) × ((note_at notes n).end ≡ n + sizes es) × (0 < sizes es)
  one_noted end n Γ ps over [] l d = absurd (omega arith)
  one_noted end n Γ ps over (A ∷ As) l d = absurd d
  one_noted (e then es) n Γ ps over [] l d = absurd d
  one_noted (expr h es qs then end) n Γ ps over (A ∷ []) l d = (d.0.2.noted.code, let z = d.0.2.noted.ends in omega arith, omega arith)
  one_noted (expr h es qs then end) n Γ ps over (A ∷ X ∷ As) l d = absurd (omega arith)
  one_noted (expr h es qs then f then rest) n Γ ps over (A ∷ []) l d = absurd d.1
  one_noted (expr h es qs then f then rest) n Γ ps over (A ∷ X ∷ As) l d = absurd (omega arith)

  -- no arms
  none_noted : (qs : Exprs) (n : ℕ) (bs : List (List Ty)) (Γ : List Ty) (ps : List ℕ) (over : ℕ) (B : Ty) → bs ≡ [] → NotedOverArms ts fs notes qs n bs Γ ps over B → sizes qs ≡ 0
  none_noted end n bs Γ ps over B e d = refl
  none_noted (q then qs) n [] Γ ps over B e d = absurd d
  none_noted (q then qs) n (b ∷ bs) Γ ps over B e d = cc

  module _ (n : ℕ) (x : L.Node) (es qs : Exprs) (Γ : List Ty) (ps : List ℕ) (over : ℕ) (As : List Ty) (B W : Ty) (listed : x ≡ listed_at t n)
      (fit_in : n + size (expr (head_of ts x) es qs) ≤ length nodes) (low : Low ps over)
      (at : NotedOverAt ts fs notes n (head_of ts x) es qs Γ ps over As B W) (all : NotedOverAll ts fs notes es (n + 1) Γ ps over As)
      (arms : NotedOverArms ts fs notes qs (n + 1 + sizes es) (rule fs Γ (head_of ts x) As).arms Γ ps over B) where
    inside : n < 512
    inside = let m = few_nodes in omega arith

    -- what is noted at what the expression is about
    about_by : (c : Bool) → is_choice_head (head_of ts x) ≡ c
        → Coded ts (cond c (note_at notes ((n + 1) % 512)) (note_at notes n)).code (cond c (type_at As 0) W) × ((cond c (note_at notes ((n + 1) % 512)) (note_at notes n)).end ≡ n + 1 + sizes es)
    about_by true e =
        let o = one_noted es (n + 1) Γ ps over As (one_part fs Γ As (head_of ts x) e at.noted.fit) all in
        let m = few_nodes in
        let k = o.2 in
        let s : n + 1 ≡ (n + 1) % 512 = sym (own (n + 1) (omega arith)) in
        subst (λ (y : ℕ). Coded ts (note_at notes y).code (type_at As 0) × ((note_at notes y).end ≡ n + 1 + sizes es)) s (o.0, o.1)
    about_by false e =
        let z = none_noted qs _ _ Γ ps over B (no_arms fs Γ As (head_of ts x) e) arms in
        let m = at.noted.ends in
        (at.noted.code, omega arith)

    about_is : Coded ts (about_at t (head_of ts x) n).code (about_type (head_of ts x) As W) × ((about_at t (head_of ts x) n).end ≡ n + 1 + sizes es)
    about_is = about_by (is_choice_head (head_of ts x)) refl

    place_is : (i : ℕ) → head_of ts x ≡ var i → word_of (note_at notes n).place ≡ get_or ps i 0
    place_is i e =
        let p = at.noted.place i e in
        let l = low i in
        let f = at.few in
        word_is (note_at notes n).place (omega arith) ∙ p

    start_is : (f : ℕ) → head_of ts x ≡ call f → word_of (get_or t.starts ((listed_at t n).number % 32) 0) ≡ body_number fs f
    start_is f e =
        let h = called fs Γ As (head_of ts x) f e at.noted.fit in
        let v : (listed_at t n).number ≡ f = ap (λ (y : L.Node). y.number) (sym listed) ∙ number_is x.kind ts x.number f e in
        let b = ap (λ (m : ℕ). get_or t.starts (m % 32) 0) v ∙ begins f h in
        let l = early f h in
        ap word_of b ∙ word_is (body_number fs f) (omega arith)

    works : (node_at code n).op ≡ standing.operation fs Γ ps (head_of ts x) As
    works =
        let m = made n inside in
        let c = subst (λ (y : L.Node). Coded ts (about_at t (head_of ts y) n).code (about_type (head_of ts x) As W)) listed about_is.0 in
        m.works ts (about_type (head_of ts x) As W) basis.typed c
        ∙ ap (λ (y : L.Node). operation_by (head_of ts y) (word_of (note_at notes n).place) (word_of (get_or t.starts ((listed_at t n).number % 32) 0)) (type_widths (about_type (head_of ts x) As W))) (sym listed)
        ∙ worked fs Γ As ps (head_of ts x) B W (word_of (note_at notes n).place) (word_of (get_or t.starts ((listed_at t n).number % 32) 0)) at.noted.whole place_is start_is

    pub sits : Sits fs code n (head_of ts x) Γ ps over (n + 1 + sizes es) As B W
    sits =
        let m = made n inside in
        let l = few_nodes in
        record {
          inside = inside;
          works = works;
          over = m.stands ∙ ap word_of at.over ∙ word_is over (let f = at.few in omega arith);
          arms = m.choices ts ∙ ap (λ (y : L.Node). word_of (about_at t (head_of ts y) n).end) (sym listed) ∙ ap word_of about_is.1 ∙ word_is (n + 1 + sizes es) (omega arith);
          fit = at.noted.fit;
          whole = at.noted.whole;
          few = few_parts fs Γ As few_params (head_of ts x) at.noted.fit;
          parts = parts_narrow es (n + 1) Γ ps over As all;
          narrow = coded_narrow t.listing ts basis.typed _ W at.noted.code;
        }

    pub ends : (node_at code n).end ≡ n + size (expr (head_of ts x) es qs)
    ends = let m = made n inside in let l = few_nodes in m.ends ∙ ap word_of at.noted.ends ∙ word_is (n + size (expr (head_of ts x) es qs)) (omega arith)

  listed_is : (n : ℕ) (x : L.Node) → n < length nodes → ((d : L.Node) → get_or nodes n d ≡ x) → x ≡ listed_at t n
  listed_is n x h at =
      let m = length-take t.listing.expressions t.listing.nodes in
      sym (at _) ∙ get_or-take t.listing.expressions t.listing.nodes n _ (omega arith)

  mutual
    -- an expression that stands in the listing and is noted stands in the code
    pub stood : {m n j : ℕ} {e : Expr} → Stands (names_of ts fs) nodes m n e j → (Γ : List Ty) (ps : List ℕ) (over : ℕ) (W : Ty) → Low ps over
        → NotedOver ts fs notes e n Γ ps over W → standing.Stands fs code e n Γ ps over W
    stood (stands m n j k x es qs inside at small range s q) Γ ps over W low d =
        let l = listed_is n x inside at in
        let p = extent_all (names_of ts fs) nodes s in
        let r = extent_all (names_of ts fs) nodes q in
        let f : n + size (expr (head_of ts x) es qs) ≤ length nodes = omega arith in (
          d.0,
          d.1,
          sits n x es qs Γ ps over d.0 d.1 W l f low d.2 d.3 d.4,
          ends n x es qs Γ ps over d.0 d.1 W l f low d.2 d.3 d.4,
          apart Γ es qs d.2.noted.apart,
          stood_all s Γ ps over d.0 low d.3,
          subst (λ (y : ℕ). standing.StandsArms fs code qs y (rule fs Γ (head_of ts x) d.0).arms Γ ps over d.1) p.0
              (stood_arms q (rule fs Γ (head_of ts x) d.0).arms Γ ps over d.1 low
              (subst (λ (y : ℕ). NotedOverArms ts fs notes qs y (rule fs Γ (head_of ts x) d.0).arms Γ ps over d.1) (sym p.0) d.4)),
        )

    stood_all : {scopes : List ℕ} {n j : ℕ} {es : Exprs} → AllStand (names_of ts fs) nodes scopes n es j → (Γ : List Ty) (ps : List ℕ) (over : ℕ) (As : List Ty) → Low ps over
        → NotedOverAll ts fs notes es n Γ ps over As → standing.StandsAll fs code es n Γ ps over As
    stood_all (all_end n h) Γ ps over [] low d = tt
    stood_all (all_end n h) Γ ps over (A ∷ As) low d = absurd d
    stood_all (all_more m scopes n j k e es s q) Γ ps over [] low d = absurd d
    stood_all (all_more m scopes n j k e es s q) Γ ps over (A ∷ As) low d =
        let p = extent (names_of ts fs) nodes s in (
          stood s Γ ps over A low d.0,
          subst (λ (y : ℕ). standing.StandsAll fs code es y Γ ps (over + width A) As) p.0
              (stood_all q Γ ps (over + width A) As (low_more ps over (over + width A) (omega arith) low)
              (subst (λ (y : ℕ). NotedOverAll ts fs notes es y Γ ps (over + width A) As) (sym p.0) d.1)),
        )

    stood_arms : {scopes : List ℕ} {n j : ℕ} {qs : Exprs} → AllStand (names_of ts fs) nodes scopes n qs j → (bs : List (List Ty)) (Γ : List Ty) (ps : List ℕ) (over : ℕ) (B : Ty) → Low ps over
        → NotedOverArms ts fs notes qs n bs Γ ps over B → standing.StandsArms fs code qs n bs Γ ps over B
    stood_arms (all_end n h) [] Γ ps over B low d = tt
    stood_arms (all_end n h) (b ∷ bs) Γ ps over B low d = absurd d
    stood_arms (all_more m scopes n j k e es s q) [] Γ ps over B low d = absurd d
    stood_arms (all_more m scopes n j k e es s q) (b ∷ bs) Γ ps over B low d =
        let p = extent (names_of ts fs) nodes s in
        let l = low_append ps (offsets over b) (over + widths b) (low_more ps over (over + widths b) (omega arith) low) (low_offsets over b) in (
          stood s (Γ ++ b) (ps ++ offsets over b) (over + widths b) B l d.0,
          subst (λ (y : ℕ). standing.StandsArms fs code es y bs Γ ps over B) p.0
              (stood_arms q bs Γ ps over B low (subst (λ (y : ℕ). NotedOverArms ts fs notes es y bs Γ ps over B) (sym p.0) d.1)),
        )

-- ---- programs

module _ (t : Table) (p : Program) (code : Code) (c : Carries t p) (o : TellsOver t p) (nodes_made : (n : ℕ) → n < 512 → Made t n (get_or code.nodes n no_node))
    (starts_made : (f : ℕ) → f < 32 → get_or code.starts f 0 ≡ word_of (get_or t.starts f 0)) where
  abbrev fs : List Fun
  fs = p.functions

  made : (n : ℕ) → n < 512 → Made t n (node_at code n)
  made n h = subst (λ (m : ℕ). Made t n (get_or code.nodes m no_node)) (sym (own n h)) (nodes_made n h)

  few_functions : (f : ℕ) → f < length fs → f < 32
  few_functions f h = let m = (held t.listing p c.listing).basis.few in omega arith

  number : (f : ℕ) → f < length fs → f % 32 ≡ f
  number f h = let k = few_functions f h in omega arith

  begun : (f : ℕ) → f < length fs → get_or t.starts f 0 ≡ body_number fs f
  begun f h = c.bodies.starts f h ∙ starts_same fs f

  early : (f : ℕ) → f < length fs → body_number fs f < 512
  early f h =
      let H = held t.listing p c.listing in
      let x = extent (names_of p.types fs) (listed_nodes t.listing) (H.stands f h) in
      let m = length-take t.listing.expressions t.listing.nodes in
      let s = H.basis.short in
      let e = starts_same fs f in
      omega (arith, x.0, x.1, x.2)

  pub encoded : Encodes code p
  encoded =
      let H = held t.listing p c.listing in
      record {
        starts = λ f h.
            let b = begun f h in
            let l = early f h in
            ap (λ (m : ℕ). get_or code.starts m 0) (number f h) ∙ starts_made f (few_functions f h) ∙ ap word_of b ∙ word_is (body_number fs f) (omega arith);
        bodies = λ f h.
            subst (λ (n : ℕ). standing.Stands fs code (fun_at fs f).body n (fun_at fs f).params (offsets 0 (fun_at fs f).params) (widths (fun_at fs f).params) (fun_at fs f).result) (starts_same fs f)
            (stood t p.types fs code H.basis made (λ g k. ap (λ (m : ℕ). get_or t.starts m 0) (number g k) ∙ begun g k) early (H.stands f h)
            (fun_at fs f).params (offsets 0 (fun_at fs f).params) (widths (fun_at fs f).params) (fun_at fs f).result
            (low_more (offsets 0 (fun_at fs f).params) (0 + widths (fun_at fs f).params) (widths (fun_at fs f).params) (omega arith) (low_offsets 0 (fun_at fs f).params))
            (o.words f h));
        params = λ f h. params_narrow t.listing p.types H.basis.typed _ (fun_at fs f) (H.basis.signed f (record { params = []; arity = 0; result = 0 }) h);
      }
