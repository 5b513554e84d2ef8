use Rattle.meaning.proofs.Reached.{sound_law, linear_law}
use Rattle.meaning.proofs.judged_programs_keep_their_cells.Goals as goal

pub returns : goal.returns
returns c = record { sound = sound_law; linear = linear_law }
