use Rattle.std.proofs.Common.{rules}
use Rattle.pool.proofs.InWords.{found_after, found_before}
use Rattle.pool.proofs.cells.find.Goals as goal

pub returns-in-Some : goal.returns-in-Some
returns-in-Some c = found_after c.args.words.now c.cells-cells.result.now c.cells-cells.ensures.are c.min-start.result (search rules) c.in-Some.i (search rules)

pub returns : goal.returns
returns c = found_before c.args.words.now c.cells-cells.result.now c.cells-cells.ensures.are c.min-start.result (search rules) c.vacant-2.result (search rules) (search rules)
