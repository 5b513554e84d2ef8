use Rattle.pool.proofs.Laws.{write_none}
use Rattle.pool_trials.proofs.Nothing.{nothing}
use Rattle.pool_trials.proofs.hollow.HollowPool.write.Goals as goal

pub returns : goal.returns
returns c = write_none _ _ _ _ (nothing c.args.self.now.bound c.args._cell)
