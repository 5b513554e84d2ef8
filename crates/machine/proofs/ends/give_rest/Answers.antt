use Rattle.machine.proofs.Givings.{none_left}
use Rattle.machine.proofs.ends.give_rest.Goals as goal

pub returns-else-staying-cells : goal.returns-else-staying-cells
returns-else-staying-cells g c o u h = none_left _ _ _ o u c.if-staying-cells.false
