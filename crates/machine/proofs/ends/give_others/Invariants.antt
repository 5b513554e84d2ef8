use Rattle.machine.proofs.Givings.{Giving}
use Rattle.machine.proofs.ends.give_others.Given as goal

abbrev pub invariant-loop-cell : goal.invariant-loop-cell
invariant-loop-cell g l = Giving (g.P.Pool.means l.initial.pool) l.staying l.cells l.cell-index (g.P.Pool.means l.pool)
