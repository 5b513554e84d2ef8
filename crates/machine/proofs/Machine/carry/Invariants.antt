use Rattle.std.proofs.Common.{◌-◌}
use Rattle.lfpl.specs.Syntax.{Program, Ty}
use Rattle.meaning.specs.Machine.{State}
use Rattle.machine.specs.Enacting.{Enacts}
use Rattle.machine.specs.Stepping.{Returning}
use Rattle.machine.proofs.Carrying.{Midway}
use Rattle.machine.proofs.Machine.carry.Given as goal

abbrev pub invariant-loop-steps : goal.invariant-loop-steps
invariant-loop-steps g l =
    (p : Program) (R : Ty) (s : State) → Enacts p R l.code (g.P.Pool.means l.initial.pool) l.initial.self s → (Returning l.initial.self.mode → ⊥)
    → Midway p R l.code (g.P.Pool.means l.initial.pool) l.initial.self s l.n l.steps (g.P.Pool.means l.pool) l.self

abbrev pub decreases-loop-steps : goal.decreases-loop-steps
decreases-loop-steps g l = l.n - l.steps
