use Rattle.pool.proofs.Joined.{side_left, side_right, side_neither}
use Rattle.pool.proofs.pair.PairPool.side.Goals as goal

pub returns-then-cell-base : goal.returns-then-cell-base
returns-then-cell-base g c = side_left (g.L.Pool.means c.args.self.now.left) (g.R.Pool.means c.args.self.now.right) _ c.bound-base.ensures c.args.cell c.if-cell-base.true

pub returns-then-joined : goal.returns-then-joined
returns-then-joined g c = side_right (g.L.Pool.means c.args.self.now.left) (g.R.Pool.means c.args.self.now.right) _ c.bound-base.ensures c.args.cell c.if-cell-base.false c.if-joined.ensures

pub returns-else-joined : goal.returns-else-joined
returns-else-joined g c = side_neither (g.L.Pool.means c.args.self.now.left) (g.R.Pool.means c.args.self.now.right) _ c.bound-base.ensures c.args.cell c.if-cell-base.false c.if-joined.ensures
