use Rattle.std.proofs.Common.{◌≡◌, ◌≤◌, true, sym, ap, ◌∙◌, subst}
use mathlib.Core.Bool.{false≢true}
use Rattle.machine.specs.Stepping.{Carried, goes}
use Rattle.machine.proofs.Carrying.{midway_more, midway_last, only_begins}
use Rattle.machine.proofs.Machine.carry.Goals.{then-loop-steps-test+else-matches, else-loop-steps-test, in-Begin, in_default}
use Rattle.machine.proofs.Machine.carry.Goals as goal

pub loop-steps-preserved : goal.loop-steps-preserved
loop-steps-preserved g c p R s f q =
    let t = c.loop-steps.invariant p R s f q in
    let begins : goes c.loop-steps.self.mode ≡ true = elim c.match-matches.branch [
      | in-Begin w ↦ ap goes w.in-Begin.is
      | in_default w ↦ absurd (false≢true (sym w.matches-is ∙ c.if-matches.true))
    ] in
    midway_more p R c.args.code.now (g.P.Pool.means c.args.pool.now) c.args.self.now s c.args.n c.loop-steps.steps
    (g.P.Pool.means c.loop-steps.pool) (g.P.Pool.means c.step.new.pool) c.loop-steps.self c.step.new.self
    c.loop-steps-test.true begins t (c.step.ensures.takes p R t.state t.enacts) c.step.ensures.settles

pub returns : goal.returns
returns g c p R s f q =
    let code = c.args.code.now in
    let m = g.P.Pool.means c.args.pool.now in
    let m' = g.P.Pool.means c.loop-steps.pool in
    let x = c.args.self.now in
    let x' = c.loop-steps.self in
    let stop : goes x'.mode ≡ true → c.args.n ≤ c.loop-steps.steps
    = λ b. elim c.loop-steps-test.branch [
      | then-loop-steps-test+else-matches u ↦ elim u.match-matches.branch [
        | in-Begin w ↦ absurd (false≢true (sym u.if-matches.false ∙ w.matches-is))
        | in_default w ↦ absurd (only_begins c.loop-steps.self.mode b w.in_default.not-Begin)
      ]
      | else-loop-steps-test u ↦ u.loop-steps-test.false
    ] in
    subst (λ a. Carried p R code m x s c.args.n (record { steps = c.loop-steps.steps; progress = a }) m' x') (sym c.progress.ensures)
    (midway_last p R code m x s c.args.n c.loop-steps.steps m' m' x' x' stop (c.loop-steps.invariant p R s f q))
