-- What the proofs of this crate import together: words of specs, types, and lemmas of the standard library.
pub use Rattle.std.specs.Option.{option_or}
pub use Rattle.std.proofs.Common.{[], add-one, All, ap, append-nil, append_assoc, arith, Bool, Bor, codes, drop, Err, false, flat_map, fold, inl, inr, IsErr, IsSome, length, length-append, length-drop, length-take, length-take-le, List, map, None, Ok, Option, option_and_then, option_copied, option_map, refl, Result, rules, slice_get, Some, subst, suc, sym, take, take-append-drop, take_all, true, zero, ℕ, ◌++◌, ◌+◌, ◌-◌, ◌<◌, ◌∙◌, ◌∷◌, ◌≡◌, ◌≤◌, ◌⊎◌, IfOk, IsErrOf, OnErr, OnOk, eq-eqb, eqb, eqb-true, filter, if◌then◌else◌, is_some, le-leb, min, ne_eqb, take-take, unwrap_or, ◌||◌, ◌↔◌}
pub use Rattle.std.proofs.lemmas.Bool.{cases_Bool, cases_eq, cases_lt, false_from_ne_true, lt-leb, false≢true}
pub use Rattle.std.proofs.lemmas.Grind.{common_steps, flat_map-append}
pub use Rattle.std.proofs.lemmas.List.{length-map, map-append, nil_from_length, take-append-le, take-map}
pub use Rattle.std.proofs.lemmas.List.Elements.{All-append, All-filter, All-from_recursion, All-head, All-nil, All-tail, filter-append, filter_passes, recursion_from_All}
pub use Rattle.std.proofs.lemmas.List.Sums.{fold-append}
pub use Rattle.std.proofs.lemmas.Option.{slice_get_within}
pub use Rattle.sgf_properties.specs.declared.fault.MemoryFault.{MemoryFault}
pub use Rattle.sgf_outline.specs.declared.traversal.NextNode.{NextNode}
pub use Rattle.sgf_outline.specs.FileOrder.{IsLeaf, node_at, ordered_nodes, OrderedNode, place_at, PlacesRise}
pub use Rattle.sgf_outline.specs.Traversal.{IsTakenOff}
pub use Rattle.sgf_outline.specs.Tree.{Games, lone_property, Node, node_count, Property, told_property, values}
pub use Rattle.tree_lines.specs.declared.sequence_cursor.Front.{Front}
pub use Rattle.tree_lines.specs.Cursor.{advanced, CursorState}
pub use Rattle.tree_lines.specs.Following.{Continues, first_after, line_before, line_in, nodes_before, nodes_of, numbers_before, path_before}
pub use Rattle.tree_lines.specs.Lines.{last_number, Line, lines}
pub use Rattle.tree_lines.specs.Paths.{Path, paths}
pub use Rattle.tree_lines.specs.Sequences.{nodes_in, SequencesState, SharesFront}
pub use Rattle.board_points.specs.Point.{IsRectOn}
unfoldable pub use Rattle.board_points.specs.Point.{points}
unfoldable pub use Rattle.board_points.specs.Values.{point_value, rect_value}
pub use Rattle.board_stones.specs.declared.setup_op.SetupOp.{SetupOp}
pub use Rattle.board_stones.specs.declared.stones.Colour.{Colour}
pub use Rattle.board_stones.specs.Grid.{Grid}
unfoldable pub use Rattle.board_stones.specs.Score.{counts_for, score_of}
pub use Rattle.go_board.specs.declared.fault.TurnFault.{TurnFault}
pub use Rattle.go_board.specs.declared.reason.Reason.{Reason}
pub use Rattle.go_board.specs.State.{followed_by, HadSameBoardSince, starting, State, States, turned}
pub use Rattle.judged_lines.specs.declared.judging.contents.Moves.TheVariants.{Nothing, Several}
pub use Rattle.judged_lines.specs.declared.judging.contents.Setup.TheVariants.{Meant}
pub use Rattle.judged_lines.specs.declared.judging.step.LegalStep.{LegalStep}
pub use Rattle.judged_lines.specs.Follower.{FollowerState, lines_judged}
pub use Rattle.judged_lines.specs.GoingOn.{Held, Refused, Unheld, Before, AreHeld, HasFront, HasPlays, index_by, IsHeldOf, PlaysLine, StandsBy}
pub use Rattle.judged_lines.specs.JudgedGames.{bad_size, board, game_kind, GameKind, not_go, root_properties}
pub use Rattle.judged_lines.specs.Judgement.{after, begun_game, board_in, IsEffectBy, IsLegalStep, IsStepOf, judged, Judgement, judging, unjudged}
pub use Rattle.judged_lines.specs.Keeping.{fresh_plays, HasJudged, HoldsLine, HoldsVerdict, PlaysUpTo}
pub use Rattle.judged_lines.specs.NodeContents.{first_value, Move, moves, moves_by, moves_in, players, players_in, Stones, stones, stones_in, stones_of}
pub use Rattle.judged_lines.specs.NodeValues.{last_player, operations, player_value}
pub use Rattle.judged_lines.specs.Plays.{all_judged_places, differ, different, judged_places, node_places, places_of, touched_places}
pub use Rattle.judged_lines.specs.Step.{move_step, setup_step, step, step_by, turn_step}
pub use Rattle.judged_lines.specs.Verdict.{BadSize, NotGo, Verdict, IsVerdictAt, judged_nodes, judged_on, score_in, verdict, verdict_at, verdict_by, verdict_of}
pub use Rattle.judged_lines.specs.Walk.{before_root, HasIllegal, IllegalNode, IsAfter, judged_by, legal_on, LegalNode, next, no_node, one_node, Walk, walk}
pub use Rattle.judged_lines.specs.inner.Gathered.{AddsRectangles, AreMoves, ComesAs, HoldsAlone, IsGathered, IsSetup, kind_of, setup_with}
pub use Rattle.judged_lines.specs.inner.Judging.{back, back_from, back_to, IsDecided, IsScoreAt, IsScoreOf, IsStepFrom, IsStepped, IsUndecided, setup_effect, judgement_of, Judging, legal_by, state_after, state_of, verdict_in}
pub use Rattle.judged_lines.specs.inner.Keeping.{WentOn}
pub use Rattle.std.proofs.lemmas.List.Folds.{find-append, list_any-append}
pub use Rattle.tree_lines.proofs.LineNodes.{as_long, as_many, line_is, named_in, some_before}
pub use Rattle.std.proofs.Math.Seq.{drop-append_seam, take-append_seam}
pub use Rattle.tree_lines.proofs.Fronts.{front_kept, next_part, none_after, rises_through}
pub use Rattle.tree_lines.proofs.CursorStates.{IsNextLine, before, next_line}
pub use Rattle.tree_lines.proofs.Named.{length-paths, line_at, place_of_node}
pub use Rattle.tree_lines.proofs.SequenceCursors.{some_end, some_ends}
