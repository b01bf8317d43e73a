-- What the proofs of this crate import together: words of specs, types, and lemmas of the standard library.
unfoldable pub use Rattle.std.specs.Fmt.{digits}
pub use Rattle.std.specs.Io.KnownBytes.{Appends}
pub use Rattle.std.specs.List.{AllZip, concat, list_any, onto_first, position_or_len, range_with_len, slice_split}
pub use Rattle.std.proofs.Common.{[], add-one, ap, append-nil, append_assoc, arith, Bool, codes, cond, decimal, drop, Err, false, flat_map, fold, length, length-append, length-drop, List, map, nat_le, nat_lt, None, Ok, OnOk, Option, option_map, refl, Result, rules, slice_get, Some, subst, suc, sym, take, take-append-drop, take_all, true, unwrap_or, zero, ℕ, ◌&&◌, ◌*◌, ◌++◌, ◌+◌, ◌-◌, ◌<◌, ◌==◌, ◌∙◌, ◌∷◌, ◌≡◌, ◌≢◌, ◌≤◌, IsErr, IsTrue, eq-eqb, filter, get_or, inl, inr, is_some, length-set, length-take, lt-ltb, min, ne_eqb, not, option_and_then, option_copied, position, slice_index, take-add, ◌%◌, ◌/◌, ◌↔◌, ◌⊎◌}
pub use Rattle.std.proofs.KnownBytes.{Appends-kept, Appends-trans}
pub use Rattle.std.proofs.Math.Seq.{drop-append-add, drop-append_seam, take-append-add, take-append_seam}
pub use Rattle.std.proofs.lemmas.Bool.{and_parts, cases_Bool, cases_eq, cases_lt, eqb-false, false_from_ne_true, not-false, or_parts}
pub use Rattle.std.proofs.lemmas.Bool.Decides.{nat_tests}
pub use Rattle.std.proofs.lemmas.Grind.{common_steps, flat_map-append}
pub use Rattle.std.proofs.lemmas.List.{get_or-replicate, length-map, length-replicate, map-append, take-append-le, take-map, drop_all}
pub use Rattle.std.proofs.lemmas.List.Folds.{concat-append, list_any-append, position_or_len_push}
pub use Rattle.std.proofs.lemmas.Option.{get_or_from_slice_get, slice_get-map, slice_get_past, slice_get_within}
pub use Rattle.std.proofs.lemmas.Result.{err_from_is_err_and}
pub use Rattle.tree_lines.proofs.Fronts.{as_many_parts, alike, end_of, parts_text}
pub use Rattle.tree_lines.proofs.Lists.{Each, each_append, element, each_map, each_parts, each_through, front_more, map-through}
pub use Rattle.sgf_properties.specs.declared.fault.MemoryFault.{MemoryFault}
pub use Rattle.sgf_outline.specs.declared.limit.TheConstants.{MAX_LENGTH}
pub use Rattle.sgf_outline.specs.FileOrder.{PlacesRise}
pub use Rattle.sgf_outline.specs.Spelling.{AreGames, AreNodes, AreProperties, ArePropValues, games, IsNode, IsProperty, IsPropValue, Letters, lower, no_byte_order_mark, no_game, no_letter, no_node, no_property, no_value, no_white_space, node, nodes, prop_value, properties, property, Spells, spells, upper, value, white_space, WhiteSpace}
pub use Rattle.sgf_outline.specs.Tree.{game, game_count, Games, joined, no_games, Node, node_count, Property}
pub use Rattle.tree_lines.specs.Cursor.{advanced, CursorState, IsAfterPlace}
pub use Rattle.tree_lines.specs.Following.{line_before, nodes_before, nodes_of}
pub use Rattle.tree_lines.specs.Lines.{last_number, Line, lines, lines_from, lines_of_game, node_lines, place_of, through}
pub use Rattle.tree_lines.specs.Sequences.{RiseTo, sequences_of, SequencesState}
pub use Rattle.board_points.specs.declared.vertices.Vertex.{Vertex}
pub use Rattle.board_points.specs.declared.points.Point.{Point}
pub use Rattle.board_points.specs.Point.{index_of, IsOn, point_at}
unfoldable pub use Rattle.board_points.specs.Point.{points}
unfoldable pub use Rattle.board_points.specs.Values.{point_value, rect_value}
pub use Rattle.board_points.specs.Vertex.{column_letters}
unfoldable pub use Rattle.board_points.specs.Vertex.{vertex_of}
pub use Rattle.board_stones.specs.Clearing.{HasUnreaching}
unfoldable pub use Rattle.board_stones.specs.Clearing.{clear, cleared_cell, has_unreaching, play}
pub use Rattle.board_stones.specs.declared.stones.Colour.{Colour}
pub use Rattle.board_stones.specs.Colour.{same_cell, stone_of}
pub use Rattle.board_stones.specs.declared.stones.Cell.TheVariants.{Empty}
pub use Rattle.board_stones.specs.declared.stones.Cell.{Cell}
pub use Rattle.board_stones.specs.Grid.{cell_at, empty_grid, Grid, with_cell}
pub use Rattle.board_stones.specs.Reaching.{Leads, Reaches}
unfoldable pub use Rattle.board_stones.specs.Reaching.{reaches, reaching_within, spread}
unfoldable pub use Rattle.board_stones.specs.Rectangle.{with_rectangle}
unfoldable pub use Rattle.board_stones.specs.Score.{counts_for, score_of}
pub use Rattle.go_board.specs.declared.reason.Reason.{Reason}
pub use Rattle.go_board.specs.Reason.{reason_of}
pub use Rattle.go_board.specs.declared.referee.plays.Play.TheVariants.{Stone}
pub use Rattle.go_board.specs.State.{set_up, starting, State, turned}
pub use Rattle.byte_streams.specs.Streams.{HasDelivered, PutsAll, SinkState, SourceState, TakesNothing}
pub use Rattle.judged_lines.specs.declared.over_lines.Before.TheVariants.{Held, Unheld}
pub use Rattle.judged_lines.specs.GoingOn.{HasPlays, index_by, IsHeldOf, next_by, PlaysLine, StandsBy}
pub use Rattle.judged_lines.specs.JudgedGames.{bad_size, board, game_kind, GameKind, not_go, root_properties}
pub use Rattle.judged_lines.specs.NodeContents.{first_value, Move, moves, moves_in, players, players_in, stones, stones_in, Stones}
pub use Rattle.judged_lines.specs.Plays.{all_judged_places, touched_places}
pub use Rattle.judged_lines.specs.Step.{move_step, setup_step, side_in, step, step_by, turn_step}
pub use Rattle.judged_lines.specs.declared.verdict.Verdict.{Verdict}
pub use Rattle.judged_lines.specs.Verdict.{judged_nodes, score_in, verdict_at, verdict_by, verdict_of, verdict_with}
pub use Rattle.judged_lines.specs.Walk.{before_root, IllegalNode, legal_on, LegalNode, next, stepped, Walk, walk}
pub use Rattle.sgf_lines.specs.declared.fault.RunFault.{RunFault}
pub use Rattle.sgf_lines.specs.declared.options.Form.{Form}
pub use Rattle.sgf_lines.specs.Answer.{Answers, IsCutShort, IsGood, read_failures, unread, write_failures}
pub use Rattle.sgf_lines.specs.Counts.{counts_of, counts_row, IsCount}
pub use Rattle.sgf_lines.specs.ListRow.{list_row, verdict_text}
pub use Rattle.sgf_lines.specs.Page.{Options, limited, lines_after, lines_asked, page}
pub use Rattle.sgf_lines.specs.Record.{node_text, output, property_text, record_of, sgf_record, value_text}
pub use Rattle.sgf_lines.specs.Replay.{after_command, after_row, after_text, before_comment, capital, Command, command_of, does_nothing, Engine, is_word, no_board, plays_stone, point_of, point_there, refused, replayed, sets_size, shows, size_command, sized, vertex_named, words}
pub use Rattle.sgf_lines.specs.RunPlays.{AnswersPlays, ArePlaysFor, IsRunWithPlays, plays_in, plays_of}
pub use Rattle.sgf_lines.specs.Script.{board_commands, colour_letter, colouring_commands, commands_by, comment_row, comment_rows, comment_text, has_no_commands, leaves_unreaching, leaves_unreaching_by, legal_script, move_commands, node_script, play_command, script, setup_commands, stone_commands, text_rows, vertex_text}
pub use Rattle.sgf_lines.specs.SplitAgain.{another_game, another_size, HaveSame, illegal_at, IsKept, SaysSame, scored}
pub use Rattle.sgf_lines.specs.inner.Cutting.{AreAppended, commands_at}
pub use Rattle.sgf_lines.specs.inner.Pieces.{AreEnds, closed, cut, pieces_from, PiecesState, pushed, rest_from}
pub use Rattle.sgf_lines.specs.inner.Recording.{IsRecord, sequences_before, unclosed_record, whole_record}
pub use Rattle.sgf_lines.specs.inner.Running.{HasRead, HasReadAll, IsReading, IsStart, page_after, WritesLines}
pub use Rattle.sgf_lines.specs.inner.Scripting.{is_unreaching, no_script, said_on, script_back, script_of, script_text, ScriptState, step_script}
pub use Rattle.sgf_lines.specs.inner.Views.{built_text, row_of}
pub use Rattle.judged_lines.proofs.Lists.{get_dropped, get_none, get_taken, joins, more_texts}
pub use Rattle.judged_lines.proofs.StreakPlays.{Shares, adds_judged, few_judged, page_from, shares_by}
pub use Rattle.judged_lines.proofs.Keeping.{by_old, has_front, line_next, same_nodes}
pub use Rattle.std.proofs.lemmas.Fmt.{decimal_digit, decimal_step, length-decimal-le}
pub use Rattle.board_points.proofs.PointLemmas.{length-points, slice_get-points}
