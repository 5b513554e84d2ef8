use Rattle.std.proofs.Common.{min, None, arith}
use Rattle.std.proofs.lemmas.List.{length-replicate}
use Rattle.pool.specs.Pools.{Cell}
use Rattle.pool_trials.proofs.hollow.HollowPool.bound.Goals as goal

pub returns : goal.returns
returns c = omega (arith, c.min.ensures, length-replicate {A = Cell} (min c.args.self.now.bound 65535) None)
