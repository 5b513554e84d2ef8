use Rattle.pool.proofs.InWords.{give_words}
use Rattle.pool.proofs.cells.CellPoolPool.give.Goals as goal

pub returns : goal.returns
returns g c =
    let p = rw c.as_slice.ensures at c.in-Some.ensures in
    let e = give_words _ _ _ _ p c.put.ensures.put in record { gives = e.0; rest = e.1; stays = c.put.ensures.stays }
