-- What the proofs of this crate import together: words of specs, types, and lemmas of the standard library.
pub use Rattle.std.proofs.Common.{All, List, None, Option, Some, [], add-one, add-zero, ap, append-nil, append_assoc, arith, codes, drop, drop-drop, false, flat_map, get_or, inl, inr, le-ltb, length, length-append, length-drop, length-set, length-take-le, lt-ltb, map, nat_lt, option_map, option_to_list, refl, rules, set, slice_get, slice_index, slice_index_or, subst, suc, sym, take, take-append-drop, take-take, true, vec_capacity, vec_len, zero, ℕ, ◌++◌, ◌+◌, ◌-◌, ◌/◌, ◌<◌, ◌∙◌, ◌∷◌, ◌≡◌, ◌≢◌, ◌≤◌}
pub use Rattle.std.specs.List.{AllByRecursion, AllZip, concat, drop-map, range_with_len}
pub use Rattle.std.proofs.Math.Seq.{drop-append_seam, drop-length, take-append_seam, take-length}
pub use Rattle.std.proofs.lemmas.Bool.{both_ways, cases_eq, cases_lt}
pub use Rattle.std.proofs.lemmas.Grind.{common_steps, drop-set_at, flat_map-append}
pub use Rattle.std.proofs.lemmas.List.{drop-take, drop_all, get_or_past, length-map, map-append, take-append-le, take-map, take_more}
pub use Rattle.std.proofs.lemmas.List.FromFn.{get_or-range_with_len, length-range_with_len}
pub use Rattle.std.proofs.lemmas.Result.{err_from_is_err_and}
pub use Rattle.std.proofs.lemmas.Option.{get_or_from_slice_get, slice_get-get_or, slice_get-map, slice_get_past, slice_get_within}
pub use Rattle.sgf_outline.proofs.Lists.{slice_get-left, slice_get-right}
pub use Rattle.sgf_outline.proofs.OrderedNodes.{length-nodes_from, length-ordered_nodes, length-further_nodes, next-child, parent_at-lt, parent_at-within, parent_in-further}
pub use Rattle.sgf_outline.proofs.Outlined.{sequence-further}
pub use Rattle.sgf_outline.proofs.Rises.{Rises, rises-count, rises-pair, rises-append, rises-get}
pub use Rattle.sgf_outline.specs.FileOrder.{further_nodes, game_of, IsLeaf, node_at, nodes_at, nodes_from, ordered_nodes, OrderedNode, parent_at, place_at, PlacesRise, sequence_end, sequence_numbers, sequence_start, sequence_starts}
pub use Rattle.sgf_outline.specs.Tree.{game, Games, leaf_count, no_games, Node, node_count, Property}
pub use Rattle.tree_lines.specs.declared.sequence_cursor.Front.{Front}
pub use Rattle.tree_lines.specs.Cursor.{advanced, CursorState, IsAfterPlace, IsLine}
pub use Rattle.tree_lines.specs.Following.{Continues, first_after, line_before, line_in, lines_before, nodes_before, nodes_of, numbers_before, path_before}
pub use Rattle.tree_lines.specs.Lines.{HasNoLineAt, last_number, Line, lines, lines_from, lines_of_game, node_lines, place_of, through}
pub use Rattle.tree_lines.specs.Paths.{EndsInLeaf, IsPathOf, leaf_of, numbered, numbered_nodes, Path, path_of, paths}
pub use Rattle.tree_lines.specs.Sequences.{nodes_in, parts_from, RiseTo, sequences_of, SequencesState, SharesFront}
pub use Rattle.tree_lines.specs.inner.Parts.{AreParts, ArePartsTo, first_of, GoesDown, IsAbove, IsAfterSequences, IsCursorKept, IsFirstFrom, IsFrontUpTo, IsNextEnd, IsUpTo, IsWayTo, MeasuresTo, Part, part_ends, part_numbers, parts_of, sequence_length}
pub use Rattle.tree_lines.specs.inner.PathTo.{HasNoLeaf, IsCutBack, IsNextLeaf, IsPathTo, step}
pub use Rattle.tree_lines.specs.inner.Standing.{IsAfterLeaf}
