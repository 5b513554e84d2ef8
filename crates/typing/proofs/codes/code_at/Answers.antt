use Rattle.std.proofs.Common.{arith}
use Rattle.std.proofs.lemmas.Grind.{common_steps}
use Rattle.typing.proofs.Coding.{coded_or}
use Rattle.typing.proofs.codes.code_at.Goals as goal

pub returns : goal.returns
returns c ts As h = let p = coded_or ts c.args.row.now.items As c.args.i h in grind (arith, common_steps)
