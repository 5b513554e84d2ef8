use Rattle.lfpl.proofs.judgement_is_hofmanns.Goals as goal
use Rattle.lfpl.proofs.Agree.{the_judgement_is_hofmanns, programs_are_hofmanns}
use Rattle.lfpl.proofs.Example.{sum_of_one}

pub returns : goal.returns
returns c = record { bodies = the_judgement_is_hofmanns; programs = programs_are_hofmanns; example = sum_of_one }
