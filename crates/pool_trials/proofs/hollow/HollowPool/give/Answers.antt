use Rattle.pool.proofs.Laws.{give_none}
use Rattle.pool_trials.proofs.Nothing.{nothing}
use Rattle.pool_trials.proofs.hollow.HollowPool.give.Goals as goal

pub returns : goal.returns
returns c = give_none _ _ (nothing c.args.self.now.bound c.args._cell)
