use Rattle.store.proofs.Fills.{Filling}
use Rattle.store.proofs.build.fresh.Given as goal

abbrev pub invariant-loop-k : goal.invariant-loop-k
invariant-loop-k g l = Filling (g.P.Pool.means l.initial.pool) l.cell l.words l.k (g.P.Pool.means l.pool)
