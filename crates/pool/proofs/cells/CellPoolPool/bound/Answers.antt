use Rattle.std.proofs.Common.{sym, ◌∙◌}
use Rattle.pool.proofs.InWords.{limit_words}
use Rattle.pool.proofs.cells.CellPoolPool.bound.Goals as goal

pub returns : goal.returns
returns g c = (rw c.as_slice.ensures at c.cells.ensures.len) ∙ sym (limit_words _)
