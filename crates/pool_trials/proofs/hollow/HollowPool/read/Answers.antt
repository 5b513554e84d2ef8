use Rattle.std.proofs.Common.{sym}
use Rattle.pool.proofs.Laws.{read_none}
use Rattle.pool_trials.specs.Hollow.{hollow}
use Rattle.pool_trials.proofs.Nothing.{nothing}
use Rattle.pool_trials.proofs.hollow.HollowPool.read.Goals as goal

pub returns : goal.returns
returns c = sym (read_none (hollow c.args.self.now.bound) c.args._cell c.args._word (nothing c.args.self.now.bound c.args._cell))
