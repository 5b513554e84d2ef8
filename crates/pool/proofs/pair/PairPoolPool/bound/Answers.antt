use Rattle.pool.proofs.Joined.{bound_both}
use Rattle.pool.proofs.pair.PairPoolPool.bound.Goals as goal

pub returns : goal.returns
returns g c =
    bound_both (g.L.Pool.means c.args.self.now.left) (g.R.Pool.means c.args.self.now.right) _ _ c.bound-base.ensures c.bound.ensures c.if-not-joined.ensures
