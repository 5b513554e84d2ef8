use Rattle.meaning.proofs.Least.{least_law}
use Rattle.meaning.proofs.meaning_is_least.Goals as goal

pub returns : goal.returns
returns c = least_law
