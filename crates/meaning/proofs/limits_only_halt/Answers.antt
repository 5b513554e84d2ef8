use Rattle.meaning.proofs.Ends.{limits_law}
use Rattle.meaning.proofs.Reached.{halts_law}
use Rattle.meaning.proofs.limits_only_halt.Goals as goal

pub returns : goal.returns
returns c = record { within = limits_law; halts = halts_law }
