use Rattle.weave.proofs.AllPlaces.{places_make_histories}
use Rattle.weave.proofs.laws.places_below_a_number_make_a_history.Goals as goal

pub returns : goal.returns
returns c = places_make_histories
