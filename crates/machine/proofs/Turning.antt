-- An expression goes on, begins, or gets a value back.
use Rattle.std.proofs.Common.{◌≡◌, ℕ, ◌+◌, ◌<◌, ◌≤◌, List, ◌∷◌, length, get_or, set, sym, refl, ap, ◌∙◌, subst, add-one, arith, length-set}
use Rattle.std.proofs.lemmas.List.{get_or-set_same, get_or-set_other}
use Rattle.lfpl.specs.Syntax.{Ty, Expr, Exprs, expr, end, ◌then◌, size, Program}
use Rattle.meaning.specs.Act.{types}
use Rattle.meaning.specs.Machine.{Frame, going, item}
use Rattle.meaning.specs.Mean.{above, widths}
use Rattle.pool.specs.Pools.{Meaning}
use Rattle.code.specs.Nodes.{node_at}
use Rattle.code.specs.declared.Code.{Code}
use Rattle.acts.specs.Effects.{Room}
use Rattle.acts.specs.Settling.{InPlaceLaw}
use Rattle.machine.specs.Enacting.{own, nobody, Going, Shape, Enacts}
use Rattle.machine.specs.Stepping.{Rest, Readied, Performed, Passed, onward, proceeds}
use Rattle.machine.specs.declared.Machine.{Machine}
use Rattle.machine.specs.declared.Mode.TheVariants.{Begin}
use Rattle.machine.specs.declared.Waiting.{Waiting}
use Rattle.machine.proofs.Landing.{stack_depth}
use Rattle.machine.proofs.Parts.{frame, first_part, stands_node, part_going, done_widths}
use Rattle.machine.proofs.Settled.{own_same, founded_on, room, end_enacts}

pub rest_same : (m : Meaning) (x x' : Machine) → own x' ≡ own x → Rest m x m x'
rest_same m x x' e = record { cells = e; still = λ c o. refl; taken = λ c. refl; count = refl; bound = refl }

size_some : (e : Expr) → 1 ≤ size e
size_some (expr h es qs) = omega arith

-- ---- an expression goes on

module _ (p : Program) (R : Ty) (code : Code) (m : Meaning) (x x' : Machine) (r : Waiting) (K : List Frame) where
  -- what is small
  pub record Small (k : Frame) : Type 0 where
    pub short : r.height < 4096
    pub low : r.base + (node_at code r.number).over ≤ 8192
    pub deep : x.depth < 4096
    pub parts : r.coming < (node_at code r.number).arms → r.base + (node_at code r.coming).over ≤ 8288

  pub small : (k : Frame) → Readied p R code m x r k K → Small k
  small k g =
      let f = g.ready.stage.fixed in
      let up = stack_depth p.functions code m x.words x.waiting K g.ready.pss r.dest k.level.height g.ready.type R g.ready.stack in
      record {
        short = omega (arith, f.height, f.short);
        low = omega (arith, ap (λ i. (node_at code i).over) f.number, f.sits.over, f.based, f.low);
        deep = omega (arith, g.depth, up, f.short);
        parts = λ t. by_rest k.rest g t;
      }
    where
      by_rest : (es : Exprs) → Readied p R code m x r (frame k.number k.head k.env k.level k.values k.coming es k.arms) K
          → r.coming < (node_at code r.number).arms → r.base + (node_at code r.coming).over ≤ 8288
      by_rest end g t = let f = g.ready.stage.fixed in absurd (omega (arith, t, f.coming, ap (λ i. (node_at code i).arms) f.number, f.sits.arms))
      by_rest (e then es) g t =
          let f = g.ready.stage.fixed in
          let o = f.over + widths k.values + 0 in
          let z = first_part p.functions code R m x.words x.waiting (own x) e es k.coming (types k.env) g.ready.ps o f.left f.rest in
          let n = stands_node p.functions code R m x.words x.waiting (own x) e k.coming (types k.env) g.ready.ps o z.0 z.3 in
          omega (arith, ap (λ i. (node_at code i).over) f.coming, n.0, f.based, f.low, done_widths k.values f.left f.sits.few f.sits.parts)

  -- the next part begins
  pub part_enacts : (k : Frame) → Readied p R code m x r k K → r.coming < (node_at code r.number).arms → Passed code x r x' → Enacts p R code m x' (proceeds p k K) × Rest m x m x'
  part_enacts k g t d = by_rest k.rest g
    where
      s : Small k
      s = small k g

      mine : own x' ≡ own x
      mine = own_same x x' d.cells d.count

      by_rest : (es : Exprs) → Readied p R code m x r (frame k.number k.head k.env k.level k.values k.coming es k.arms) K
          → Enacts p R code m x' (proceeds p (frame k.number k.head k.env k.level k.values k.coming es k.arms) K) × Rest m x m x'
      by_rest end g = let f = g.ready.stage.fixed in absurd (omega (arith, t, f.coming, ap (λ i. (node_at code i).arms) f.number, f.sits.arms))
      by_rest (e then es) g =
          let f = g.ready.stage.fixed in
          let l = k.level in
          let vs = k.values in
          let o = f.over + widths vs + 0 in
          let z = first_part p.functions code R m x.words x.waiting (own x) e es k.coming (types k.env) g.ready.ps o f.left f.rest in
          let n = stands_node p.functions code R m x.words x.waiting (own x) e k.coming (types k.env) g.ready.ps o z.0 z.3 in
          let at : r.base + (node_at code r.coming).over ≡ l.words + widths vs = omega (arith, ap (λ i. (node_at code i).over) f.coming, n.0, f.based) in
          let w : x'.waiting ≡ set x.waiting (length K) (onward code r) = d.waiting s.deep ∙ ap (λ i. set x.waiting i (onward code r)) g.depth in
          let inside : length K < length x.waiting = omega (arith, s.deep, g.depth, g.founded.waiting_long) in
          let new : get_or x'.waiting (length K) nobody ≡ onward code r = ap (λ t. get_or t (length K) nobody) w ∙ get_or-set_same x.waiting (length K) (onward code r) nobody inside in
          let old : (i : ℕ) → i < length K → get_or x'.waiting i nobody ≡ get_or x.waiting i nobody
          = λ i q. ap (λ t. get_or t i nobody) w ∙ get_or-set_other x.waiting (length K) i (onward code r) nobody (λ e. omega arith) in
          let go = part_going p.functions code R m x.words x.waiting (own x) x'.waiting r k.number k.coming k.head e es k.arms k.env vs l K new old g.ready in
          let i = item k.coming e k.env (above l vs) in
          let J = frame k.number k.head k.env l vs (k.coming + size e) es k.arms ∷ K in
          let md : x'.mode ≡ Begin r.coming r.base (l.words + widths vs) (r.height + 1) =
          d.mode (omega (arith, s.parts t)) (omega (arith, s.short)) ∙ ap (λ a. Begin r.coming r.base a (r.height + 1)) at in (
            record {
              founded = founded_on p code m m x x' mine (ap length d.words) (ap length w ∙ length-set x.waiting (length K) (onward code r)) (λ c. refl) g.founded;
              shape = subst (λ q. Shape p R code m x' q (going i J)) (sym md) (
                i,
                J,
                refl,
                f.coming,
                ap (λ a. a + 1) f.height ∙ add-one l.height,
                d.depth s.deep ∙ ap (λ a. a + 1) g.depth ∙ add-one (length K),
                subst (λ a. Going p.functions code R m a x'.waiting (own x') r.base (l.words + widths vs) i J) (sym d.words)
                    (subst (λ a. Going p.functions code R m x.words x'.waiting a r.base (l.words + widths vs) i J) (sym mine) go),
              );
            },
            rest_same m x x' mine,
          )

module _ (law : InPlaceLaw) (p : Program) (R : Ty) (code : Code) (m m' : Meaning) (x x' : Machine) (r : Waiting) (K : List Frame) where
  ended : (k : Frame) → Readied p R code m x r k K → (r.coming < (node_at code r.number).arms → ⊥) → k.rest ≡ end
  ended k g t = by_rest k.rest g
    where
      by_rest : (es : Exprs) → Readied p R code m x r (frame k.number k.head k.env k.level k.values k.coming es k.arms) K → es ≡ end
      by_rest end g = refl
      by_rest (e then es) g = let f = g.ready.stage.fixed in absurd (t (omega (arith, f.coming, ap (λ i. (node_at code i).arms) f.number, f.sits.arms, size_some e)))

  -- no part is to come: there is room for the operation
  pub settle_room : (k : Frame) → Readied p R code m x r k K → (r.coming < (node_at code r.number).arms → ⊥)
      → Room m x.words r.base (r.base + (node_at code r.number).over) r.dest (node_at code r.number).op
  settle_room k g t = by_rest k.rest (ended k g t) g
    where
      by_rest : (es : Exprs) → es ≡ end → Readied p R code m x r (frame k.number k.head k.env k.level k.values k.coming es k.arms) K
          → Room m x.words r.base (r.base + (node_at code r.number).over) r.dest (node_at code r.number).op
      by_rest es e g = room law p R code m m x x r k.number k.coming k.head k.arms k.env k.values k.level K
          (subst (λ es. Readied p R code m x r (frame k.number k.head k.env k.level k.values k.coming es k.arms) K) e g)

  -- and it is performed
  pub settle_enacts : (k : Frame) → Readied p R code m x r k K → (r.coming < (node_at code r.number).arms → ⊥) → Performed code (node_at code r.number) r m x m' x'
      → Enacts p R code m' x' (proceeds p k K) × Rest m x m' x'
  settle_enacts k g t d = by_rest k.rest (ended k g t) g
    where
      by_rest : (es : Exprs) → es ≡ end → Readied p R code m x r (frame k.number k.head k.env k.level k.values k.coming es k.arms) K
          → Enacts p R code m' x' (proceeds p (frame k.number k.head k.env k.level k.values k.coming es k.arms) K) × Rest m x m' x'
      by_rest es e g =
          let P : Exprs → Type 0 = λ es. Enacts p R code m' x' (proceeds p (frame k.number k.head k.env k.level k.values k.coming es k.arms) K) × Rest m x m' x' in
          subst P (sym e) (end_enacts law p R code m m' x x' r k.number k.coming k.head k.arms k.env k.values k.level K
          (subst (λ es. Readied p R code m x r (frame k.number k.head k.env k.level k.values k.coming es k.arms) K) e g) d)
