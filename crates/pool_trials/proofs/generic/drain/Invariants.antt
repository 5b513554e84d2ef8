use Rattle.std.proofs.Common.{◌≡◌, ◌+◌}
use Rattle.pool_trials.proofs.generic.drain.Given as goal

-- the cells taken and those free are all that were free
abbrev pub invariant-loop-taken : goal.invariant-loop-taken
invariant-loop-taken g l = l.taken + (g.P.Pool.means l.pool).free ≡ (g.P.Pool.means l.initial.pool).free

-- each turn takes a cell
abbrev pub decreases-loop-taken : goal.decreases-loop-taken
decreases-loop-taken g l = (g.P.Pool.means l.pool).free
