use Rattle.std.proofs.Common.{◌≤◌}
use Rattle.operations.proofs.Keeping.{Filled}
use Rattle.operations.proofs.cells.fetch.Given as goal

abbrev pub invariant-loop-k : goal.invariant-loop-k
invariant-loop-k g l = l.n ≤ 16 → Filled (g.P.Pool.means l.pool) l.cell l.w-items l.k
