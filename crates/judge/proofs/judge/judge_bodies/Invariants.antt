use Rattle.lfpl.specs.Syntax.{Program}
use Rattle.tables.specs.Listed.{Holds}
use Rattle.judge.proofs.Bodied.{Upto}
use Rattle.judge.proofs.judge.judge_bodies.Given as goal

abbrev pub invariant-loop-f : goal.invariant-loop-f
invariant-loop-f l = (p : Program) → Holds l.listing p → Upto p l.notes l.starts l.f l.at
