use Rattle.std.proofs.Common.{rules}
use Rattle.pool.proofs.InWords.{cells_from}
use Rattle.pool.proofs.cells.cells.Goals as goal

pub returns : goal.returns
returns c = record { are = cells_from _ _ _ c.as_chunks.ensures.front (search rules); len = search rules }
