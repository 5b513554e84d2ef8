use Rattle.lfpl.proofs.Shapes.{the_shapes_are_the_rules}
use Rattle.lfpl.proofs.shapes_are_the_rules.Goals as goal

pub returns : goal.returns
returns c = the_shapes_are_the_rules
