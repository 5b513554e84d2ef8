use Rattle.std.proofs.Common.{◌+◌, ◌*◌, max}
use Rattle.store.proofs.walk.+walking.Given as goal

abbrev pub decreases-walk : goal.decreases-walk
decreases-walk g l = 512 * l.left + (2 * l.kind.number + 2)

abbrev pub decreases-walk_cell : goal.decreases-walk_cell
decreases-walk_cell g l = 512 * l.left + (2 * l.kind.number + 1)

abbrev pub decreases-walk_pair : goal.decreases-walk_pair
decreases-walk_pair g l = 512 * l.left + (2 * max l.first.number l.second.number + 3)
