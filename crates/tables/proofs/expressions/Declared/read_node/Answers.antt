use Rattle.std.proofs.lemmas.Result.{err_from_is_err_and}
use Rattle.tables.proofs.Expressed.{node_breaks, node_read}
use Rattle.tables.proofs.expressions.Declared.read_node.Goals as goal

pub returns-in_err-number : goal.returns-in_err-number
returns-in_err-number c ns k =
    let p = err_from_is_err_and c.from_residual-in_err-number.result c.from_residual-in_err-number.ensures.1 in
    let t = c.in_ok-index.ensures in
    rw (p.1, p.2)
    (node_breaks ns c.args.scope c.in_ok-index.index c.shape_of.result.operand t.takes t.bound.1 c.shape_of.ensures.operand
    c.read_operand.new.cursor c.in_err-number.field-0.0 (c.in_err-number.ensures ns k))

pub returns : goal.returns
returns c ns k =
    let t = c.in_ok-index.ensures in
    node_read ns c.args.scope c.in_ok-index.index c.shape_of.result.operand t.takes t.bound.1 c.shape_of.ensures.operand
    c.read_operand.new.cursor c.in_ok-number.number (c.in_ok-number.ensures ns k)
