-- The places of all nodes, as they are kept.
use Rattle.sgf_tree.proofs.Common.{◌≡◌, ℕ, ◌<◌, List, length, get_or, Some, ap, ◌∙◌, arith, common_steps, length-map, slice_get_read, slice_get-map, OrderedNode, ordered_nodes, place_at, Games, node_count, ordered_places, length-ordered_nodes}

module _ (g : Games) (places : List ℕ) (kept : places ≡ ordered_places (ordered_nodes g)) where
  pub places_count : length places ≡ node_count g
  places_count = ap length kept ∙ length-map (ordered_nodes g) (λ (r : OrderedNode). r.node.place) ∙ length-ordered_nodes g

  pub place_kept : (i p : ℕ) → i < node_count g → p ≡ get_or places i p → place_at g i ≡ Some p
  place_kept i p lt here = grind (arith, common_steps, slice_get-map, slice_get_read, places_count)
