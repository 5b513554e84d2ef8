use Rattle.machine.specs.Stepping.{turns_left}
use Rattle.machine.proofs.Carrying.{Underway}
use Rattle.machine.proofs.Machine.step.Given as goal

abbrev pub invariant-loop : goal.invariant-loop
invariant-loop g l = Underway l.code (g.P.Pool.means l.initial.pool) l.initial.self (g.P.Pool.means l.pool) l.self

abbrev pub decreases-loop : goal.decreases-loop
decreases-loop g l = turns_left l.self.mode l.self.depth
