use Rattle.pool.proofs.InWords.{take_words}
use Rattle.pool.proofs.cells.CellPoolPool.take.Goals as goal

pub returns : goal.returns
returns g c =
    let f = rw c.as_slice.ensures at c.in_ok-i.ensures in
    let e = take_words _ _ _ f c.put.ensures.put in record { takes = e.0; rest = e.1; stays = c.put.ensures.stays }
