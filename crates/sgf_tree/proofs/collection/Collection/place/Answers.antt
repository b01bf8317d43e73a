use Rattle.sgf_tree.proofs.Common.{common_steps, arith}
use Rattle.sgf_tree.proofs.PlacesKept.{places_count, place_kept}
use Rattle.sgf_tree.proofs.collection.Collection.place.Goals as goal

pub returns : goal.returns
returns c = grind (arith, common_steps, places_count, place_kept)
