use Rattle.std.proofs.Common.{◌≡◌, ◌≤◌}
use Rattle.store.specs.Layout.{used}
use Rattle.operations.proofs.Keeping.{Keeping}
use Rattle.operations.proofs.cells.keep.Given as goal

abbrev pub invariant-loop-k : goal.invariant-loop-k
invariant-loop-k g l = l.n ≤ 16 → used (g.P.Pool.means l.initial.pool) l.cell ≡ 1 → Keeping (g.P.Pool.means l.initial.pool) l.cell l.words l.at l.k (g.P.Pool.means l.pool)
