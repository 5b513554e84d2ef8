use Rattle.tables.proofs.Expressed.{opens}
use Rattle.tables.proofs.expressions.Declared.opened.Goals as goal

pub returns : goal.returns
returns c ts = opens _ ts c.args.node _ (c.part_count.ensures ts) c.shape_of.ensures.arms
