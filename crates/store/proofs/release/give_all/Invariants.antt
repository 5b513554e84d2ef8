use Rattle.store.proofs.Gives.{GivenBack}
use Rattle.store.proofs.release.give_all.Given as goal

abbrev pub invariant-loop-cell : goal.invariant-loop-cell
invariant-loop-cell g l = GivenBack (g.P.Pool.means l.initial.pool) l.cells l.count l.cell-index (g.P.Pool.means l.pool)
