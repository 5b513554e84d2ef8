use Rattle.meaning.proofs.Ends.{ends_law, going_law, pieces_law}
use Rattle.meaning.proofs.runs_end_as_meant.Goals as goal

pub returns : goal.returns
returns c = record { ends = ends_law; going = going_law; pieces = pieces_law }
