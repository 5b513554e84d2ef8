use Rattle.std.proofs.Common.{◌≡◌, ◌+◌, ◌<◌, sym, refl, ap, subst, arith}
use Rattle.code.specs.Nodes.{node_at}
use Rattle.machine.specs.Stepping.{waiting}
use Rattle.machine.specs.declared.Machine.{Machine}
use Rattle.machine.specs.declared.Mode.TheVariants.{Done, Halted}
use Rattle.machine.specs.declared.Limit.TheVariants as Limit
use Rattle.machine.specs.declared.Waiting.{Waiting}
use Rattle.machine.proofs.Beginning.{near, wide_halts, done_enacts, with_mode, Leads, begins_with, returns_to, led, led_falls}
use Rattle.machine.proofs.Machine.turn.Goals.{in-Begin-default+else-height-ge-TOO_HIGH+else-place-gt-MOST_WORDS, in-Return-Some}
use Rattle.machine.proofs.Machine.turn.Goals as goal

-- a limit forbids it
pub returns-then-place-gt-MOST_WORDS : goal.returns-then-place-gt-MOST_WORDS
returns-then-place-gt-MOST_WORDS g c = record {
  falls = λ q. absurd q;
  takes = λ p R s f.
      let x = c.args.self.now in
      let b = c.in-Begin-default in
      let m = g.P.Pool.means c.args.pool.now in
      let code = c.args.code.now in
      let e : c.node.result ≡ node_at code b.number = c.node.ensures in
      let n = near p R code m x s f b.number b.base b.dest b.height b.is-0 in
      let w : 8192 < b.base + (node_at code b.number).over = omega (arith, ap (λ n. n.over) e, c.sum-place.ensures (omega (arith, n, ap (λ n. n.over) e)), c.if-place-gt-MOST_WORDS.true) in
      wide_halts p R code m x s f b.number b.base b.dest b.height b.is-0
      (with_mode x (Halted Limit.Words))
      c.if-height-ge-TOO_HIGH.false w refl refl refl refl;
}

-- none waits for the value
pub returns-in-Return-None : goal.returns-in-Return-None
returns-in-Return-None g c = record {
  falls = λ q. absurd q;
  takes = λ p R s f.
      let x = c.args.self.now in
      let b = c.in-Return-None in
      let m = g.P.Pool.means c.args.pool.now in
      done_enacts p R c.args.code.now m x s f b.is-0
      (with_mode x Done)
      b.ensures refl refl refl refl;
}

-- an expression begins, or goes on with the value
pub returns : goal.returns
returns g c =
    let x = c.args.self.now in
    let y = c.match-self.self in
    let r = c.match-self.r in
    let m = g.P.Pool.means c.args.pool.now in
    let code = c.args.code.now in
    let P : Machine → Waiting → Type 0 = λ y r. Leads code m x y r in
    let way : P y r = elim c.match-self.branch [
      | in-Begin-default+else-height-ge-TOO_HIGH+else-place-gt-MOST_WORDS w ↦
          let b = w.in-Begin-default in
          subst (λ z. P y z) (sym w.r-is) (subst (λ z. P z (waiting b.number w.sum.result b.base b.dest b.height)) (sym w.self-is)
          (begins_with code m x b.number b.base b.dest b.height w.node.result w.sum-place.result w.sum.result
          b.is-0 w.node.ensures w.sum-place.ensures w.sum.ensures w.if-height-ge-TOO_HIGH.false w.if-place-gt-MOST_WORDS.false))
      | in-Return-Some w ↦
          subst (λ z. P y z) (sym w.r-is) (subst (λ z. P z w.in-Return-Some.r) (sym w.self-is)
          (returns_to code m x w.in-Return-Some.r w.in-Return-Some.is-0 w.in-Return-Some.ensures.0 w.in-Return-Some.ensures.1))
    ] in
    record {
      takes = led code m (g.P.Pool.means c.proceed.new.pool) x y c.proceed.new.self r way c.proceed.ensures.enacts;
      falls = led_falls code m x y c.proceed.new.self r way c.proceed.ensures.level;
    }
