use Rattle.pool.proofs.Joined.{take_left, take_right}
use Rattle.pool.proofs.pair.PairPoolPool.take.Goals as goal

pub returns-in-Some : goal.returns-in-Some
returns-in-Some g c = take_left _ _ _ _ c.in-Some.ensures

pub returns : goal.returns
returns g c = take_right _ _ _ c.bound-base.ensures _ _ _ c.in_default.ensures c.if-not-joined.ensures c.in_ok-n.ensures
