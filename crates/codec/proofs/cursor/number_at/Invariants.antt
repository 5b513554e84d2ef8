use Rattle.codec.proofs.Numbers.{Sofar}
use Rattle.codec.proofs.cursor.number_at.Given as goal

abbrev pub invariant-loop-k : goal.invariant-loop-k
invariant-loop-k l = Sofar l.rest l.value l.scale l.k
