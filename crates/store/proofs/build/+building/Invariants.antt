use Rattle.std.proofs.Common.{◌+◌, ◌-◌, ◌*◌, max, length}
use Rattle.store.proofs.build.+building.Given as goal

abbrev pub decreases-build : goal.decreases-build
decreases-build g l = 512 * (length l.bytes.now - l.at) + (2 * l.kind.number + 2)

abbrev pub decreases-build_cell : goal.decreases-build_cell
decreases-build_cell g l = 512 * (length l.bytes.now - l.at) + (2 * l.kind.number + 3)

abbrev pub decreases-build_pair : goal.decreases-build_pair
decreases-build_pair g l = 512 * (length l.bytes.now - l.at) + (2 * max l.first.number l.second.number + 3)
