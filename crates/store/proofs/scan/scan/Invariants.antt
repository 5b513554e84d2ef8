use Rattle.std.proofs.Common.{◌≡◌}
use Rattle.codec.specs.Stack.{held, room as room_of}
use Rattle.store.specs.Scanning.{work}
use Rattle.store.proofs.Fronts.{Sofar, room}
use Rattle.store.proofs.scan.scan.Given as goal

abbrev pub invariant-loop-next : goal.invariant-loop-next
invariant-loop-next l = Sofar l.entries l.bytes l.t l.most (held l.pile) l.reader.left l.reader.cursor × (room_of l.pile ≡ room)

abbrev pub decreases-loop-next : goal.decreases-loop-next
decreases-loop-next l = work l.entries l.bytes (held l.pile) l.reader.cursor.at
