use Rattle.std.proofs.Common.{refl}
use Rattle.machine.proofs.Givings.{giving_more, giving_all}
use Rattle.machine.proofs.ends.give_others.Goals as goal

pub loop-cell-preserved : goal.loop-cell-preserved
loop-cell-preserved g c =
    giving_more _ _ _ c.args.staying.now c.args.cells.now c.loop-cell.cell-index _ c.contains-stays.result c.loop-cell-test.true refl
    c.contains-stays.ensures.value c.loop-cell.invariant c.give_unless.ensures

pub returns : goal.returns
returns g c = giving_all _ _ c.args.staying.now c.args.cells.now c.loop-cell.cell-index c.loop-cell-test.false c.loop-cell.invariant
