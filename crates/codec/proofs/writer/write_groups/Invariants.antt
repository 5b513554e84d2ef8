use Rattle.codec.proofs.Spellings.{Writing}
use Rattle.codec.proofs.writer.write_groups.Given as goal

abbrev pub invariant-loop-slot : goal.invariant-loop-slot
invariant-loop-slot l = Writing l.n l.slot-items l.slot-index l.rest
