use Rattle.pool.proofs.pair.PairPoolPool.write.Goals as goal

pub returns-in-Some-Left : goal.returns-in-Some-Left
returns-in-Some-Left g c = let i = rw c.in-Some-Left.field-0-is at c.in-Some-Left.ensures in i.writes _ _ _ _ c.write.ensures

pub returns-in-Some-Right : goal.returns-in-Some-Right
returns-in-Some-Right g c = let i = rw c.in-Some-Right.field-0-is at c.in-Some-Right.ensures in i.writes _ _ _ _ c.write-in-Some-Right.ensures
