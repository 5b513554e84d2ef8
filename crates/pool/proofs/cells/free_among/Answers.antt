use Rattle.std.proofs.Common.{◌+◌, ◌∙◌, [], ap, sym, arith}
use Rattle.std.proofs.lemmas.List.Sums.{count_by_more_yes, count_by_more_no}
use Rattle.std.proofs.lemmas.Bool.{eq-eqb, ne_eqb}
use Rattle.pool.specs.Words.{unmarked}
use Rattle.pool.proofs.cells.free_among.Goals as goal
use Rattle.pool.proofs.cells.free_among.Goals.{then-cell-eq-FREE, else-cell-eq-FREE}

pub loop-cell-preserved : goal.loop-cell-preserved
loop-cell-preserved c =
    let i = c.loop-cell.cell-index in
    let cells = c.args.cells.now in
    elim c.if-cell-eq-FREE.branch [
      | then-cell-eq-FREE w ↦ (w.free-is ∙ ap (λ n. n + 1) c.loop-cell.invariant.0 ∙ sym (count_by_more_yes unmarked cells i [] c.loop-cell-test.true (eq-eqb _ 0 w.if-cell-eq-FREE.true)), omega (arith, w.free-is))
      | else-cell-eq-FREE w ↦ (w.free-is ∙ c.loop-cell.invariant.0 ∙ sym (count_by_more_no unmarked cells i [] c.loop-cell-test.true (ne_eqb _ 0 w.if-cell-eq-FREE.false)), omega (arith, w.free-is))
    ]
