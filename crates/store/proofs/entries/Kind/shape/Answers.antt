use Rattle.store.proofs.Shapes.{shaped_list, shaped_tree, shaped_pair, shaped_sum}
use Rattle.store.proofs.entries.Kind.shape.Goals as goal

pub returns-in-List : goal.returns-in-List
returns-in-List c = shaped_list c.args.self c.earlier.result c.earlier.ensures.entries (cc)

pub returns-in-Tree : goal.returns-in-Tree
returns-in-Tree c = shaped_tree c.args.self c.earlier-in-Tree.result c.earlier-in-Tree.ensures.entries (cc)

pub returns-in-Pair : goal.returns-in-Pair
returns-in-Pair c =
    shaped_pair c.args.self c.earlier-in-Pair.result c.earlier-in-Pair-2.result c.earlier-in-Pair.ensures.entries c.earlier-in-Pair-2.ensures.entries (cc)

pub returns-in-Sum : goal.returns-in-Sum
returns-in-Sum c =
    shaped_sum c.args.self c.earlier-in-Sum.result c.earlier-in-Sum-2.result c.earlier-in-Sum.ensures.entries c.earlier-in-Sum-2.ensures.entries (cc)
