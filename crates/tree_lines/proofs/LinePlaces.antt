-- The places of the lines rise, if those of the nodes do.
use Rattle.tree_lines.proofs.Common.{◌≡◌, ℕ, suc, map, slice_get, Some, option_map, ap, ◌∙◌, slice_index, add-one, arith, common_steps, length-map, slice_get-map, get_or_from_slice_get, PlacesRise, Games, Line, lines, place_of, paths}
use Rattle.std.specs.List.Sorted.{IsStrictlyIncreasing}
use Rattle.tree_lines.proofs.Lists.{element}
use Rattle.tree_lines.proofs.Named.{line_at, length-paths}
use Rattle.tree_lines.proofs.CursorStates.{leaf_rises}

module _ (c : Games) where
  place_at_line : (k : ℕ) (line : Line) → slice_get (lines c) k ≡ Some line → slice_index (map place_of (lines c)) k ≡ place_of line
  place_at_line k line e =
      get_or_from_slice_get (map place_of (lines c)) k (place_of line) 0 (slice_get-map place_of (lines c) k ∙ ap (λ o. option_map place_of o) e)

  pub lines_rise : PlacesRise c → IsStrictlyIncreasing (map place_of (lines c))
  lines_rise rise k lt = grind (arith, common_steps, length-paths, length-map, element (paths c) k, element (paths c) (suc k), line_at, leaf_rises, add-one, place_at_line)
