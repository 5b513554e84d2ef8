-- What a turn begins with: an expression is to begin, or a value has come back.
use Rattle.std.proofs.Common.{◌≡◌, ℕ, ◌+◌, ◌-◌, ◌<◌, ◌≤◌, List, [], ◌∷◌, length, get_or, sym, refl, ap, ◌∙◌, subst, arith}
use mathlib.Core.Option.{some, none}
use Rattle.std.proofs.lemmas.Bool.{le-leb, lt-ltb, lt-leb, le-ltb}
use Rattle.lfpl.specs.Syntax.{Ty, Expr, expr, Fun, Program}
use Rattle.meaning.specs.Act.{types}
use Rattle.meaning.specs.Machine.{Frame, State, halted, item, begun, joined, begins_under, landing, return}
use Rattle.meaning.specs.Mean.{Level, limited, height, words}
use Rattle.pool.specs.Pools.{Meaning}
use Rattle.store.specs.Layout.{Shows, footprint, occ}
use Rattle.store.proofs.Moves.{occ_append}
use Rattle.code.specs.Nodes.{node_at}
use Rattle.code.specs.Standing.{Stands}
use Rattle.code.specs.declared.Code.{Code}
use Rattle.code.specs.declared.Node.{Node}
use Rattle.machine.specs.Enacting.{own, nobody, Going, Back, Stack, Shape, Enacts, why_of}
use Rattle.machine.specs.Stepping.{Rest, Readied, Returning, Takes, proceeds, stepped, turned, turns_left, waiting}
use Rattle.machine.specs.declared.Limit as L
use Rattle.machine.specs.declared.Limit.TheVariants as Limit
use Rattle.machine.specs.declared.Machine.{Machine}
use Rattle.machine.specs.declared.Mode.{Mode}
use Rattle.machine.specs.declared.Mode.TheVariants.{Begin, Return, Done, Halted}
use Rattle.machine.specs.declared.Waiting.{Waiting}
use Rattle.machine.proofs.Landing.{back_ready, stack_depth}
use Rattle.machine.proofs.Parts.{begin_ready, stands_node}
use Rattle.machine.proofs.Settled.{own_same, founded_on}
use Rattle.machine.proofs.Turning.{rest_same}

inside : (fs : List Fun) (code : Code) (e : Expr) (n : ℕ) (Γ : List Ty) (ps : List ℕ) (o : ℕ) (A : Ty) → Stands fs code e n Γ ps o A → n < 512
inside fs code (expr h es qs) n Γ ps o A s = s.2.inside

-- the limits, by cases
within : (l : Level) → l.height < 4096 → l.words ≤ 8192 → limited l ≡ none
within l p q = rw (lt-leb 4096 l.height p, le-ltb 8192 l.words q) refl

too_high : (l : Level) → 4096 ≤ l.height → limited l ≡ some height
too_high l p = rw (le-leb 4096 l.height p) refl

too_wide : (l : Level) → l.height < 4096 → 8192 < l.words → limited l ≡ some words
too_wide l p q = rw (lt-leb 4096 l.height p, lt-ltb 8192 l.words q) refl

-- what waits for a value is low enough
back_depth : (fs : List Fun) (code : Code) (m : Meaning) (ws : List ℕ) (recs : List Waiting) (k : Frame) (K : List Frame) (pss : List (List ℕ)) (top up : ℕ) (T R : Ty)
    → Stack fs code m ws recs (k ∷ K) pss top up T R → length K < 4096
back_depth fs code m ws recs k K [] top up T R s = absurd s
back_depth fs code m ws recs k K (ps ∷ pss) top up T R s =
    omega (arith, s.1.fixed.short, stack_depth fs code m ws recs K pss (get_or recs (length K) nobody).dest k.level.height s.0 R s.4)

-- the machine about something else
abbrev pub with_mode : Machine → Mode → Machine
with_mode x d = record { mode = d; depth = x.depth; count = x.count; loaded = x.loaded; words = x.words; waiting = x.waiting; cells = x.cells }

-- the machine with its innermost waiting expression taken away
abbrev pub popped : Machine → Machine
popped x = record { mode = x.mode; depth = x.depth - 1; count = x.count; loaded = x.loaded; words = x.words; waiting = x.waiting; cells = x.cells }

module _ (p : Program) (R : Ty) (code : Code) (m : Meaning) (x : Machine) (s : State) (g : Enacts p R code m x s) where
  -- ---- an expression is to begin

  module _ (number base dest up : ℕ) (e : x.mode ≡ Begin number base dest up) where
    shape : Shape p R code m x (Begin number base dest up) s
    shape = subst (λ d. Shape p R code m x d s) e g.shape

    node_over : (node_at code number).over ≡ shape.6.over
    node_over = let t = shape in
        ap (λ i. (node_at code i).over) t.3 ∙ (stands_node p.functions code R m x.words x.waiting (own x) t.0.term t.0.number (types t.0.env) t.6.ps t.6.over t.6.type t.6.stands).0

    place : base + (node_at code number).over ≡ shape.0.level.words
    place = omega (arith, node_over, shape.6.based)

    pub near : base + (node_at code number).over ≤ 8288
    near = omega (arith, place, shape.6.near)

    pub few : number < 512
    few = let t = shape in omega (arith, t.3, inside p.functions code t.0.term t.0.number (types t.0.env) t.6.ps t.6.over t.6.type t.6.stands)

    -- it does not, for a limit
    halted_by : (x' : Machine) (y : L.Limit) → limited shape.0.level ≡ some (why_of y) → x'.mode ≡ Halted y → x'.words ≡ x.words → x'.waiting ≡ x.waiting → own x' ≡ own x
        → Enacts p R code m x' (turned x.mode p s) × Rest m x m x'
    halted_by x' y l em ew eq eo =
        let t = shape in
        let i = t.0 in
        let K = t.1 in
        let state : turned x.mode p s ≡ halted (why_of y) =
        ap (λ d. turned d p s) e ∙ ap (stepped p) t.2 ∙ ap (λ o. landing (begins_under p.functions o i) K (λ u. return p.functions K u)) l in (
          record {
            founded = founded_on p code m m x x' eo (ap length ew) (ap length eq) (λ c. refl) g.founded;
            shape = subst (λ d. Shape p R code m x' d (turned x.mode p s)) (sym em) state;
          },
          rest_same m x x' eo,
        )

    pub high_halts : (x' : Machine) → 4096 ≤ up → x'.mode ≡ Halted Limit.Height → x'.words ≡ x.words → x'.waiting ≡ x.waiting → own x' ≡ own x
        → Enacts p R code m x' (turned x.mode p s) × Rest m x m x'
    high_halts x' h = halted_by x' Limit.Height (too_high shape.0.level (omega (arith, shape.4)))

    pub wide_halts : (x' : Machine) → up < 4096 → 8192 < base + (node_at code number).over → x'.mode ≡ Halted Limit.Words → x'.words ≡ x.words → x'.waiting ≡ x.waiting → own x' ≡ own x
        → Enacts p R code m x' (turned x.mode p s) × Rest m x m x'
    wide_halts x' h w = halted_by x' Limit.Words (too_wide shape.0.level (omega (arith, shape.4)) (omega (arith, place)))

    -- it does
    pub begin_readied : up < 4096 → base + (node_at code number).over ≤ 8192
        → (k : Frame) × (K : List Frame) × Readied p R code m x (record { number = number; coming = number + 1; base = base; dest = dest; height = up }) k K × (turned x.mode p s ≡ proceeds p k K)
    begin_readied h w = go shape.0.term refl
      where
        go : (t : Expr) → shape.0.term ≡ t
            → (k : Frame) × (K : List Frame) × Readied p R code m x (record { number = number; coming = number + 1; base = base; dest = dest; height = up }) k K × (turned x.mode p s ≡ proceeds p k K)
        go (expr hd es qs) et =
            let t = shape in
            let K = t.1 in
            let l = t.0.level in
            let env = t.0.env in
            let n = t.0.number in
            let r : Waiting = record { number = number; coming = number + 1; base = base; dest = dest; height = up } in
            let q : Going p.functions code R m x.words x.waiting (own x) base dest (item n (expr hd es qs) env l) K = subst (λ b. Going p.functions code R m x.words x.waiting (own x) base dest (item n b env l) K) et t.6 in
            let k = begun (expr hd es qs) n env l in (
              k,
              K,
              record {
                founded = g.founded;
                depth = t.5;
                ready = begin_ready p.functions code R m x.words x.waiting (own x) r n hd es qs env l K (omega (arith, place)) (omega (arith, t.4)) t.3 (ap (λ a. a + 1) t.3) t.4 q;
              },
              ap (λ d. turned d p s) e ∙ ap (stepped p) t.2 ∙ ap (λ o. landing (begins_under p.functions o t.0) K (λ u. return p.functions K u)) (within l (omega (arith, t.4)) (omega (arith, place)))
                  ∙ ap (λ b. proceeds p (begun b n env l) K) et,
            )

  -- ---- a value has come back

  module _ (e : x.mode ≡ Return) where
    back : Shape p R code m x Return s
    back = subst (λ d. Shape p R code m x d s) e g.shape

    still : turned x.mode p s ≡ s
    still = ap (λ d. turned d p s) e

    -- none waits for it
    pub done_enacts : (x' : Machine) → x.depth ≡ 0 → x'.mode ≡ Done → x'.words ≡ x.words → x'.waiting ≡ x.waiting → own x' ≡ own x → Enacts p R code m x' (turned x.mode p s) × Rest m x m x'
    done_enacts x' d em ew eq eo = go back.1 refl
      where
        go : (K : List Frame) → back.1 ≡ K → Enacts p R code m x' (turned x.mode p s) × Rest m x m x'
        go [] ek =
            let t = back in
            let v = t.0 in
            let b : Back p.functions code R m x.words x.waiting (own x) v [] = subst (λ K. Back p.functions code R m x.words x.waiting (own x) v K) ek t.4 in
            let at : b.top ≡ 0 = b.stack.1 in
            let fp = footprint m v.type v.value x.words 0 in (
              record {
                founded = founded_on p code m m x x' eo (ap length ew) (ap length eq) (λ c. refl) g.founded;
                shape = subst (λ d. Shape p R code m x' d (turned x.mode p s)) (sym em) (
                  v,
                  still ∙ t.2 ∙ ap (λ K. return p.functions K v) ek,
                  b.stack.0,
                  rw ew (subst (λ (a : ℕ). Shows m v.type v.value x.words a) at b.shows),
                  λ c. rw (ew, eo) (omega (arith, b.owned c, occ_append c (footprint m v.type v.value x.words b.top) [], ap (λ (a : ℕ). occ c (footprint m v.type v.value x.words a)) at)),
                );
              },
              rest_same m x x' eo,
            )
        go (k ∷ K) ek = absurd (omega (arith, d, back.3, ap length ek))

    -- the innermost waiting expression goes on
    pub back_readied : (y : Machine) (r : Waiting) → 0 < x.depth → (x.depth ≤ 4096 → r ≡ get_or x.waiting (x.depth - 1) nobody) → y.depth ≡ x.depth - 1 → y.words ≡ x.words → y.waiting ≡ x.waiting → y.cells ≡ x.cells → y.count ≡ x.count
        → (k : Frame) × (K : List Frame) × Readied p R code m y r k K × (turned x.mode p s ≡ proceeds p k K)
    back_readied y r positive top ed ew eq ec en = go back.1 refl
      where
        eo : own y ≡ own x
        eo = own_same x y ec en

        go : (K : List Frame) → back.1 ≡ K → (k : Frame) × (K : List Frame) × Readied p R code m y r k K × (turned x.mode p s ≡ proceeds p k K)
        go [] ek = absurd (omega (arith, positive, back.3, ap length ek))
        go (k ∷ K) ek =
            let t = back in
            let v = t.0 in
            let b : Back p.functions code R m x.words x.waiting (own x) v (k ∷ K) = subst (λ K. Back p.functions code R m x.words x.waiting (own x) v K) ek t.4 in
            let n : x.depth - 1 ≡ length K = omega (arith, t.3, ap length ek) in
            let low : x.depth ≤ 4096 = omega (arith, t.3, ap length ek, back_depth p.functions code m x.words x.waiting k K b.pss b.top b.up v.type R b.stack) in
            let er : r ≡ get_or x.waiting (length K) nobody = top low ∙ ap (λ i. get_or x.waiting i nobody) n in
            let q = back_ready p.functions code R m x.words x.waiting (own x) v k K b in (
              joined k v,
              K,
              record {
                founded = founded_on p code m m x y eo (ap length ew) (ap length eq) (λ c. refl) g.founded;
                depth = ed ∙ n;
                ready = rw (ew, eq, eo, er) q;
              },
              still ∙ t.2 ∙ ap (λ K. return p.functions K v) ek,
            )

-- what holds over the rest of a machine that holds the same cells
pub rest_from : (m m' : Meaning) (x y x' : Machine) → own y ≡ own x → Rest m y m' x' → Rest m x m' x'
rest_from m m' x y x' e r = record { cells = r.cells ∙ e; still = λ c o. r.still c (ap (occ c) e ∙ o); taken = r.taken; count = r.count; bound = r.bound }

-- one after the other
pub rest_then : (m m' m'' : Meaning) (x x' x'' : Machine) → Rest m x m' x' → Rest m' x' m'' x'' → Rest m x m'' x''
rest_then m m' m'' x x' x'' p q = record {
  cells = q.cells ∙ p.cells;
  still = λ c o. q.still c (ap (occ c) p.cells ∙ o) ∙ p.still c o;
  taken = λ c. q.taken c ∙ p.taken c;
  count = q.count ∙ p.count;
  bound = q.bound ∙ p.bound;
}

-- the machine y, with the expression of the record r to go on, is where a turn of the machine x leads first
pub record Leads (code : Code) (m : Meaning) (x y : Machine) (r : Waiting) : Type 0 where
  pub ready : (p : Program) (R : Ty) (s : State) → Enacts p R code m x s → (k : Frame) × (K : List Frame) × Readied p R code m y r k K × (turned x.mode p s ≡ proceeds p k K)
  pub same : own y ≡ own x
  pub level : y.depth + 1 < turns_left x.mode x.depth

-- and the rest of the turn
pub led : (code : Code) (m m' : Meaning) (x y x' : Machine) (r : Waiting) → Leads code m x y r
    → ((p : Program) (R : Ty) (k : Frame) (K : List Frame) → Readied p R code m y r k K → Enacts p R code m' x' (proceeds p k K) × Rest m y m' x')
    → Takes (turned x.mode) code m x m' x'
led code m m' x y x' r l f p R s g =
    let t = l.ready p R s g in
    let u = f p R t.0 t.1 t.2 in
    (subst (λ z. Enacts p R code m' x' z) (sym t.3) u.0, rest_from m m' x y x' l.same u.1)

pub led_falls : (code : Code) (m : Meaning) (x y x' : Machine) (r : Waiting) → Leads code m x y r → (Returning x'.mode → x'.depth ≤ y.depth) → Returning x'.mode
    → turns_left x'.mode x'.depth < turns_left x.mode x.depth
led_falls code m x y x' r l f q = go x'.mode q (f q)
  where
    go : (d : Mode) → Returning d → x'.depth ≤ y.depth → turns_left d x'.depth < turns_left x.mode x.depth
    go (Begin n b e h) q k = absurd q
    go Return q k = omega (arith, l.level)
    go Done q k = absurd q
    go (Halted z) q k = absurd q

-- an expression begins
pub begins_with : (code : Code) (m : Meaning) (x : Machine) (number base dest up : ℕ) (node : Node) (place coming : ℕ) → x.mode ≡ Begin number base dest up → node ≡ node_at code number
    → (base + node.over ≤ 65536 → place ≡ base + node.over) → (number + 1 ≤ 65536 → coming ≡ number + 1) → up < 4096 → place ≤ 8192
    → Leads code m x x (waiting number coming base dest up)
begins_with code m x number base dest up node place coming e en ep ec h w = record {
  ready = λ p R s g.
      let n = near p R code m x s g number base dest up e in
      let l = few p R code m x s g number base dest up e in
      let o = ap (λ n. n.over) en in
      let t = begin_readied p R code m x s g number base dest up e h (omega (arith, o, ep (omega (arith, n, o)), w)) in
      let i : coming ≡ number + 1 = ec (omega (arith, l)) in
      (t.0, t.1, subst (λ j. Readied p R code m x (waiting number j base dest up) t.0 t.1) (sym i) t.2, t.3);
  same = refl;
  level = subst (λ d. x.depth + 1 < turns_left d x.depth) (sym e) (omega arith);
}

-- an expression goes on with a value that has come back
pub returns_to : (code : Code) (m : Meaning) (x : Machine) (r : Waiting) → x.mode ≡ Return → 0 < x.depth → (x.depth ≤ 4096 → r ≡ get_or x.waiting (x.depth - 1) nobody)
    → Leads code m x (popped x) r
returns_to code m x r e h top = record {
  ready = λ p R s g. back_readied p R code m x s g e (popped x) r h top refl refl refl refl refl;
  same = refl;
  level = subst (λ d. x.depth - 1 + 1 < turns_left d x.depth) (sym e) (omega arith);
}
