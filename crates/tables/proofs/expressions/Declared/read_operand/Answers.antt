use Rattle.tables.proofs.Expressed.{function_read}
use Rattle.tables.proofs.expressions.Declared.read_operand.Goals as goal

pub returns-in-Function : goal.returns-in-Function
returns-in-Function c ns k =
    let e = c.within-in-Function.ensures in
    function_read ns c.args.self.now.types c.args.self.now.functions.now c.args.scope c.args.what c.args.cursor.now c.within-in-Function.new.self c.within-in-Function.result k c.in-Function.is e.takes e.bound
