use Rattle.pool.proofs.InWords.{write_words}
use Rattle.pool.proofs.cells.CellPoolPool.write.Goals as goal

pub returns-in-Some : goal.returns-in-Some
returns-in-Some g c =
    let p = rw c.as_slice.ensures at c.in-Some.ensures in
    let e = write_words _ _ _ _ _ c.args.value p c.if-word-lt-WORDS.true c.put.ensures.put in record { writes = e.0; rest = e.1; stays = c.put.ensures.stays }
