use Rattle.assembler.proofs.Stood.{encoded}
use Rattle.assembler.proofs.assemble.Goals as goal

pub returns : goal.returns
returns c = λ p k o.
    encoded c.args.table.now p (record { nodes = c.nodes_of.result; starts = c.starts_of.result }) k o c.nodes_of.ensures c.starts_of.ensures
