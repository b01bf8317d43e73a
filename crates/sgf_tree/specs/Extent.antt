-- How much a text holds.
use Rattle.std.specs.Prelude.{◌≡◌, ℕ, List}
use Rattle.sgf_outline.specs.Tree.{Games, game_count, node_count, leaf_count}
use Rattle.sgf_outline.specs.Spelling.{Spells}
use Rattle.sgf_tree.specs.declared.extent.Extent.{Extent}

-- the text spells a collection that has so many games, nodes and leaves
pub record HasExtent (text : List ℕ) (extent : Extent) : Type 0 where
  pub collection : Games
  pub spelled : Spells collection text
  pub games_counted : extent.games ≡ game_count collection
  pub nodes_counted : extent.nodes ≡ node_count collection
  pub leaves_counted : extent.leaves ≡ leaf_count collection
