use Rattle.std.proofs.Common.{◌≡◌, ◌+◌, ◌-◌, ◌*◌, ◌≤◌, length}
use Rattle.codec.specs.Stack.{held, room}
use Rattle.lfpl.specs.Reading.{Names}
use Rattle.tables.specs.Inner.{Named, waiting}
use Rattle.tables.proofs.Grouped.{Underway}
use Rattle.tables.proofs.expressions.expressions.Given as goal

-- so many expressions stand, and those that the pile has to come are read next
abbrev pub invariant-loop-o : goal.invariant-loop-o
invariant-loop-o l =
    (length l.nodes ≡ 512) × (l.count ≤ 512) × (length (held l.pile) ≤ l.count + 32) × (room l.pile ≡ 544)
    × ((ns : Names) → Named l.types l.functions ns → Underway ns l.initial.cursor l.count l.nodes (waiting (held l.pile)) l.cursor)

abbrev pub decreases-loop-o : goal.decreases-loop-o
decreases-loop-o l = 2 * (512 - l.count) + length (held l.pile)
