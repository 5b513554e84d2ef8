use Rattle.std.proofs.Common.{refl, rules}
use Rattle.store.proofs.Fills.{filling_none, filling_more, filled}
use Rattle.store.proofs.build.fresh.Goals as goal

pub loop-k-init : goal.loop-k-init
loop-k-init g c = filling_none _ _ _ _ c.in-Some.ensures

pub loop-k-preserved : goal.loop-k-preserved
loop-k-preserved g c = filling_more _ _ _ _ _ _ _ _ c.loop-k.invariant c.write.ensures c.loop-k-test.true refl

pub returns : goal.returns
returns g c h = filled _ _ _ _ _ _ c.in-Some.ensures c.loop-k.invariant c.loop-k-test.false (search rules)
