use Rattle.meaning.proofs.Reached.{places_law, bounds_law, types_law}
use Rattle.meaning.proofs.states_stay_in_the_table.Goals as goal

pub returns : goal.returns
returns c = record { places = places_law; bounds = bounds_law; types = types_law }
