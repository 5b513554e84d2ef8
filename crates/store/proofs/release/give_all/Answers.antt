use Rattle.std.proofs.Common.{arith}
use Rattle.std.proofs.lemmas.List.{get_or-take, length-take}
use Rattle.store.proofs.Gives.{given_more, given_all}
use Rattle.store.proofs.release.give_all.Goals as goal

pub loop-cell-preserved : goal.loop-cell-preserved
loop-cell-preserved g c =
    let n = length-take c.min.result c.args.cells.now in
    given_more _ _ _ c.args.cells.now c.args.count c.loop-cell.cell-index c.give.result (omega arith) c.loop-cell.invariant
    (rw (← get_or-take c.min.result c.args.cells.now c.loop-cell.cell-index 0 (omega arith)) c.give.ensures)

pub returns : goal.returns
returns g c =
    let n = length-take c.min.result c.args.cells.now in
    given_all _ _ c.args.cells.now c.args.count c.loop-cell.cell-index (omega arith) c.loop-cell.invariant
