use Rattle.sgf_outline.proofs.PlacesRise.{places-rise}
use Rattle.sgf_tree.proofs.laws.places_rise.Goals as goal

pub returns : goal.returns
returns c = places-rise
