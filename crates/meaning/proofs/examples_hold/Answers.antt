use Rattle.meaning.proofs.Worked.{examples_law}
use Rattle.meaning.proofs.examples_hold.Goals as goal

pub returns : goal.returns
returns c = examples_law
