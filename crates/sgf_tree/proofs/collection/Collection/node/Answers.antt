use Rattle.sgf_tree.proofs.Common.{◌≡◌, Some, arith, rules, common_steps, place_at}
use Rattle.sgf_tree.proofs.PlacesKept.{places_count, place_kept}
use Rattle.sgf_tree.proofs.collection.Collection.node.Goals as goal
use Rattle.sgf_tree.proofs.collection.Collection.node.Goals.{After-index}

pub index-requires : goal.index-requires
index-requires c = grind (arith, common_steps, places_count)

-- its place was read
here : (c : After-index) → place_at c.self.inside.outline c.args.i ≡ Some c.index.result.now
here c = grind (arith, common_steps, place_kept)

pub node_at-requires : goal.node_at-requires
node_at-requires c = (c.args.i, here (goal.at.node_at-requires c).After-index)

pub returns : goal.returns
returns c = search (rules, here)
