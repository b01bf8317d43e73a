-- What the proofs of this crate import together: words of specs, types, and lemmas of the standard library and of board_points.
pub use Rattle.std.proofs.Common.{[], ap, arith, bit_and, bit_or, Bool, cond, Contains, Decides, false, fold, get_or, inl, inr, IsTrue, length, length-set, List, nat_lt, not, refl, rules, set, slice_index, Some, subst, sym, take, take_all, true, true≢false, w64, ℕ, ◌&&◌, ◌*◌, ◌+◌, ◌<◌, ◌==◌, ◌||◌, ◌↔◌, ◌∙◌, ◌∷◌, ◌≡◌, ◌≢◌, ◌≤◌, ◌⊎◌}
pub use Rattle.std.proofs.Math.Bool.{and-false, and-true, or-true}
pub use Rattle.std.proofs.lemmas.Bool.{and_from, and_parts, cases_Bool, cases_eq, cases_lt, false_from_ne_true, false≢true, not-false, not-true, or_cases, or_left, or_parts, or_right}
pub use Rattle.std.proofs.lemmas.Bool.Decides.{Decides-and, Decides-at, Decides-eqb, Decides-like, Decides-ltb, Decides-not, Decides-or, nat_tests, not_from_Decides, same_from_decides}
pub use Rattle.std.proofs.lemmas.Grind.{common_steps}
pub use Rattle.std.proofs.lemmas.List.{get_or_past, length-map, length-replicate, length_push, set-get_or}
pub use Rattle.std.proofs.lemmas.List.Sums.{count_by-le-length, fold_more, sum_by-cons}
pub use Rattle.board_points.specs.declared.points.Point.{Point}
pub use Rattle.board_points.specs.Halves.{AreOthersPaired, ArePaired, high_halves, low_halves}
pub use Rattle.board_points.specs.Linked.{AddsIfShut, HasLiberty, HaveLiberty, IsFree, IsLiberty, IsShutIn, IsStone}
pub use Rattle.board_points.specs.Marking.{is_marked, marked_count, Marking}
pub use Rattle.board_points.specs.Point.{AreAdjacent, index_of, IsOn, point_at}
unfoldable pub use Rattle.board_points.specs.Point.{points}
pub use Rattle.board_points.specs.Rows.{AreRowsOf, Grows, has_bit, is_set, IsAmong, IsClosed, IsDifference}
unfoldable pub use Rattle.board_points.specs.Rows.{count_apart}
pub use Rattle.board_points.specs.Search.{Finds, nothing_found, Searched}
pub use Rattle.board_stones.specs.declared.stones.Cell.{Cell}
pub use Rattle.board_stones.specs.declared.stones.Cell.TheVariants.{Empty}
pub use Rattle.board_stones.specs.declared.stones.Colour.{Colour}
pub use Rattle.board_stones.specs.Clearing.{HasUnreaching}
unfoldable pub use Rattle.board_stones.specs.Clearing.{clear, cleared_cell, has_unreaching, play}
pub use Rattle.board_stones.specs.Colour.{opponent, same_cell, stone_of}
pub use Rattle.board_stones.specs.Grid.{cell_at, empty_grid, Grid, grid_of, with_cell}
unfoldable pub use Rattle.board_stones.specs.Grid.{with_row}
pub use Rattle.board_stones.specs.Move.{Clears, IsWithout}
pub use Rattle.board_stones.specs.Reaching.{Leads, leads_on, Reaches}
unfoldable pub use Rattle.board_stones.specs.Reaching.{reaches, reaching_within, spread}
pub use Rattle.board_stones.specs.Rectangle.{is_in}
unfoldable pub use Rattle.board_stones.specs.Rectangle.{with_rectangle}
pub use Rattle.board_stones.specs.Score.{CountsFor}
unfoldable pub use Rattle.board_stones.specs.Score.{counts_for, score_of}
pub use Rattle.board_stones.specs.inner.Flood.{IsUnderWay, ReachesThrough}
pub use Rattle.board_stones.specs.inner.Groups.{AddsShut, AllLive, AllReach, AreClearedOrReachBeside, AreKnownAlive, AreShutGroups, is_shut, IsClearedOrReaches, IsWithoutLiberty, ReachBeside, ReachesIfStone}
pub use Rattle.board_stones.specs.inner.Regions.{AreStones, grid_with, is_either, reaches_through_own, stone_in}
unfoldable pub use Rattle.board_stones.specs.inner.Regions.{with_columns}
pub use Rattle.board_points.proofs.GrowLemmas.{row_below}
pub use Rattle.board_points.proofs.MarkingLemmas.{get_or-replicate_default}
pub use Rattle.board_points.proofs.PointLemmas.{AreAdjacent-sym, Contains-take_more, Decides-some_point, index_of-point_at, IsOn-point_at, same_or_not}
pub use Rattle.board_points.proofs.WordLemmas.{has_bit-zero, same_bools}
