-- An operation performed takes the machine to the next state.
use Rattle.std.proofs.Common.{◌≡◌, ℕ, zero, suc, ◌+◌, ◌≤◌, List, ◌++◌, length, take, sym, refl, ap, ◌∙◌, subst, ap₂, add-one, arith}
use Rattle.lfpl.specs.Syntax.{Ty, Head, Exprs, end, Fun, Program}
use Rattle.lfpl.specs.Values.{Typed}
use Rattle.meaning.specs.Act.{Act, give, choose, enter, stuck, act, types}
use Rattle.meaning.specs.Machine.{Frame, Item, State, going, item, arm_at, settle, proceed, landing, return, body, body_number}
use Rattle.meaning.specs.Mean.{Level, above, body_level}
use Rattle.pool.specs.Pools.{Meaning, held, limit}
use Rattle.store.specs.Layout.{occ, used}
use Rattle.store.proofs.Moves.{occ_append}
use Rattle.code.specs.Nodes.{node_at}
use Rattle.code.specs.Standing.{operation}
use Rattle.code.specs.declared.Code.{Code}
use Rattle.code.specs.declared.Next.{Next}
use Rattle.code.specs.declared.Next.TheVariants.{Value, Body}
use Rattle.acts.specs.Effects.{Effect, Room}
use Rattle.acts.specs.Settling.{Acts, arm_of, InPlaceLaw}
use Rattle.machine.specs.Enacting.{own, stage_cells, stack_cells, Going, Back, Founded, Shape, Enacts}
use Rattle.machine.specs.Stepping.{Rest, Readied, Performed, mode_after}
use Rattle.machine.specs.declared.Machine.{Machine}
use Rattle.machine.specs.declared.Mode.TheVariants.{Begin}
use Rattle.machine.specs.declared.Waiting.{Waiting}
use Rattle.machine.proofs.Landing.{arm_number, sits, settles, gave_back, chose_going, entered_going}
use Rattle.machine.proofs.Parts.{frame}

pub own_same : (x x' : Machine) → x'.cells ≡ x.cells → x'.count ≡ x.count → own x' ≡ own x
own_same x x' e f = ap₂ take f e

-- how the machine stays founded
pub founded_on : (p : Program) (code : Code) (m m' : Meaning) (x x' : Machine) → own x' ≡ own x → length x'.words ≡ length x.words → length x'.waiting ≡ length x.waiting
    → ((c : ℕ) → used m' c ≡ used m c) → Founded p code m x → Founded p code m' x'
founded_on p code m m' x x' e w q t f = record {
  encodes = f.encodes;
  words_long = w ∙ f.words_long;
  waiting_long = q ∙ f.waiting_long;
  once = λ c. omega (arith, f.once c, ap (occ c) e);
  taken = λ c h. t c ∙ f.taken c (omega (arith, ap (occ c) e));
}

arm_mode : (fs : List Fun) (code : Code) (r : Waiting) (at j : ℕ) → j ≤ 1 → mode_after code r at (arm_of j) ≡ Begin (arm_number fs code r.coming j) r.base r.dest (r.height + 1)
arm_mode fs code r at zero l = refl
arm_mode fs code r at (suc zero) l = refl
arm_mode fs code r at (suc (suc j)) l = absurd (omega arith)

module _ (law : InPlaceLaw) (p : Program) (R : Ty) (code : Code) (m m' : Meaning) (x x' : Machine) (r : Waiting) (n c : ℕ) (h : Head) (qs : Exprs) (env vs : List Typed) (l : Level) (K : List Frame)
    (g : Readied p R code m x r (frame n h env l vs c end qs) K) where
  abbrev fs : List Fun
  fs = p.functions

  -- where the expression stands
  pub place : r.base + (node_at code r.number).over ≡ l.words
  place =
      let f = g.ready.stage.fixed in
      omega (arith, ap (λ i. (node_at code i).over) f.number, f.sits.over, f.based)

  -- the operation is the head's
  op_is : (node_at code r.number).op ≡ operation fs (types env) g.ready.ps h (types vs)
  op_is = ap (λ i. (node_at code i).op) g.ready.stage.fixed.number ∙ (sits fs code R m x.words x.waiting (own x) g.founded.once g.founded.words_long r n c h qs env vs l K g.ready).works

  here : Room m x.words r.base l.words r.dest (operation fs (types env) g.ready.ps h (types vs))
      × ((next : Next) (m' : Meaning) (ys : List ℕ) → Effect m x.words r.base l.words r.dest (operation fs (types env) g.ready.ps h (types vs)) next m' ys
      → Acts fs m x.words r.base l.words r.dest h qs env vs g.ready.ps g.ready.type next m' ys (act fs h env vs))
  here = law fs m x.words r.base l.words r.dest h qs env vs g.ready.ps g.ready.stage.fixed.arm g.ready.type
      (settles fs code R m x.words x.waiting (own x) g.founded.once g.founded.words_long r n c h qs env vs l K g.ready)

  -- there is room for it
  pub room : Room m x.words r.base (r.base + (node_at code r.number).over) r.dest (node_at code r.number).op
  room = rw (place, op_is) here.0

  -- what it does is what the head does
  acts : (d : Performed code (node_at code r.number) r m x m' x')
      → Acts fs m x.words r.base l.words r.dest h qs env vs g.ready.ps g.ready.type d.next m' x'.words (act fs h env vs)
  acts d = here.1 d.next m' x'.words (rw (place, op_is) at d.effect)

  module _ (d : Performed code (node_at code r.number) r m x m' x') where
    mine : own x' ≡ own x
    mine = own_same x x' d.cells d.count

    up : r.height + 1 ≡ suc l.height
    up = ap (λ i. i + 1) g.ready.stage.fixed.height ∙ add-one l.height

    mode_is : (next : Next) → d.next ≡ next → x'.mode ≡ mode_after code r l.words next
    mode_is next e = d.mode ∙ ap₂ (mode_after code r) place e

    deep : x'.depth ≡ length K
    deep = d.depth ∙ g.depth

    -- what is said of the words that wait and of the cells holds of the machine after
    over : (P : List Waiting → List ℕ → Type 0) → P x.waiting (own x) → P x'.waiting (own x')
    over P t = subst (λ q. P q (own x')) (sym d.waiting) (subst (λ o. P x.waiting o) (sym mine) t)

    abbrev Result : Act → Type 0
    Result a = Enacts p R code m' x' (landing (settle fs a qs c env l) K (λ u. return fs K u)) × Rest m x m' x'

    -- an expression begins next, and the pool is as it was
    begins : (s : State) (i : Item) (number base : ℕ) (next : Next) → m' ≡ m → length x'.words ≡ length x.words → d.next ≡ next
        → mode_after code r l.words next ≡ Begin number base r.dest (r.height + 1)
        → s ≡ going i K → number ≡ i.number → i.level.height ≡ suc l.height → Going fs code R m x'.words x.waiting (own x) base r.dest i K
        → Enacts p R code m' x' s × Rest m x m' x'
    begins s i number base next pool long en em es ei eh go = (
      record {
        founded = founded_on p code m m' x x' mine long (ap length d.waiting) (λ c. ap (λ t. used t c) pool) g.founded;
        shape = subst (λ md. Shape p R code m' x' md s) (sym (mode_is next en ∙ em))
            (i, K, es, ei, up ∙ sym eh, deep, over (λ q o. Going fs code R m' x'.words q o base r.dest i K) (subst (λ t. Going fs code R t x'.words x.waiting (own x) base r.dest i K) (sym pool) go));
      },
      record {
        cells = mine;
        still = λ c o. ap (λ t. held t c) pool;
        taken = λ c. ap (λ t. used t c) pool;
        count = ap (λ t. t.free) pool;
        bound = ap limit pool;
      },
    )

    settled : (a : Act) → Acts fs m x.words r.base l.words r.dest h qs env vs g.ready.ps g.ready.type d.next m' x'.words a → Result a
    settled (give v) a =
        let b = gave_back fs code R m x.words x.waiting (own x) g.founded.once g.founded.words_long r n c h qs env vs l K g.ready d.next m' x'.words v a in (
          record {
            founded = founded_on p code m m' x x' mine a.above.long (ap length d.waiting) a.taken g.founded;
            shape = subst (λ md. Shape p R code m' x' md (return fs K v)) (sym (mode_is Value a.next)) (v, K, refl, deep, over (λ q o. Back fs code R m' x'.words q o v K) b);
          },
          record {
            cells = mine;
            still = λ i o. a.still i (omega (
              arith,
              o,
              g.ready.owned i,
              occ_append i (stage_cells fs code m x.words r (frame n h env l vs c end qs) g.ready.ps) (stack_cells fs code m x.words x.waiting K g.ready.pss),
            ));
            taken = a.taken;
            count = a.count;
            bound = a.bound;
          },
        )
    settled (choose j xs) a =
        let b = chose_going fs code R m x.words x.waiting (own x) g.founded.once g.founded.words_long r n c h qs env vs l K g.ready d.next m' x'.words j xs a in
        let i = item (arm_number fs code c j) b.0 (env ++ xs) (above l xs) in
        begins (landing (arm_at qs j c (env ++ xs) (above l xs)) K (λ u. return fs K u)) i (arm_number fs code r.coming j) r.base (arm_of j) a.pool a.above.long a.next
        (arm_mode fs code r l.words j a.two) (ap (λ o. landing o K (λ u. return fs K u)) b.2) (ap (λ t. arm_number fs code t j) g.ready.stage.fixed.coming) refl b.1
    settled (enter f xs) a =
        let b = entered_going fs code R m x.words x.waiting (own x) g.founded.once g.founded.words_long r n c h qs env vs l K g.ready d.next m' x'.words f xs g.founded.encodes.bodies a in
        begins (going (body fs f xs (body_level l xs)) K) (body fs f xs (body_level l xs)) (body_number fs f) l.words (Body (body_number fs f)) a.pool (ap length a.words) a.next refl refl refl refl
        (subst (λ t. Going fs code R m t x.waiting (own x) l.words r.dest (body fs f xs (body_level l xs)) K) (sym a.words) b)
    settled stuck a = absurd a

    -- the expression goes on as the abstract machine does
    pub end_enacts : Enacts p R code m' x' (landing (proceed fs (frame n h env l vs c end qs)) K (λ u. return fs K u)) × Rest m x m' x'
    end_enacts = settled (act fs h env vs) (acts d)
