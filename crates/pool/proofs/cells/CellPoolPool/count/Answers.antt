use Rattle.std.proofs.Common.{◌∙◌}
use Rattle.pool.proofs.InWords.{count_cells}
use Rattle.pool.proofs.cells.CellPoolPool.count.Goals as goal

pub returns : goal.returns
returns g c = c.free_among.ensures ∙ count_cells _ _ (rw c.as_slice.ensures at c.cells.ensures.are)
