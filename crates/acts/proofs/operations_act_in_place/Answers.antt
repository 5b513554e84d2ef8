use Rattle.acts.proofs.InPlace.{in_place_law}
use Rattle.acts.proofs.operations_act_in_place.Goals as goal

pub returns : goal.returns
returns c = in_place_law
