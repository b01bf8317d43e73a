-- What the proofs of this crate import together: words of specs, types, and lemmas of the standard library.
pub use Rattle.std.proofs.Common.{All, Bool, IsTrue, List, None, Option, Some, [], add-zero, ap, append-nil, append_assoc, arith, cond, drop, eqb, eqb-true, false, filter, flat_map, get_or, if◌then◌else◌, inl, inr, length, length-append, length-take-le, lit<, map, ne_eqb, option_and_then, refl, replicate, rules, set, slice_get, slice_range, subst, suc, sym, take, take-add, take-append-drop, take-take, take_all, true, unwrap_or, zero, ℕ, ⊎_elim, ◌*◌, ◌++◌, ◌+◌, ◌-◌, ◌<◌, ◌==◌, ◌∙◌, ◌∷◌, ◌≡◌, ◌≢◌, ◌≤◌, ◌⊎◌}
pub use Rattle.std.proofs.lemmas.Bool.{cases_lt, eqb-false, or_cases, or_left, or_parts}
pub use Rattle.std.proofs.lemmas.Grind.{common_steps, flat_map-append}
pub use Rattle.std.proofs.lemmas.List.{get_or-append_right, get_or_append_left, length-map, map-append, nil_from_length, set_at, take_more}
pub use Rattle.std.proofs.lemmas.List.Elements.{All-append, All-cons, All-nil, All-replicate, filter-append}
pub use Rattle.std.proofs.lemmas.Option.{none-some, option_and_then_some, same_Some, slice_get-get_or, slice_get-map, slice_get_read}
pub use Rattle.std.proofs.lemmas.Result.{err_from_is_err_and, on_ok_weaker}
pub use Rattle.sgf_outline.proofs.Copying.{copied-as, copies-none, copies-then}
pub use Rattle.sgf_outline.proofs.GameEnds.{add_games, closed-in, fewer-games, game-ends, unclosed_count-closed, game_count-closed}
pub use Rattle.sgf_outline.proofs.OrderedNodes.{length-further_nodes, length-nodes_from, parent_at-lt, length-ordered_nodes, parent-within, parent_in, parent_in-further, parent_in-left, parent_in-right, parent_in-within}
pub use Rattle.sgf_properties.proofs.Classes.{lower-not_upper, upper-not_bracket, upper-not_white_space, white-not_lower, white-not_upper, between-not_upper, upper-range, white-not_mark}
pub use Rattle.sgf_properties.proofs.NameEnds.{bracket-here, span-one, name-begins, name-longer}
pub use Rattle.sgf_properties.proofs.Spans.{span-none, span-more}
pub use Rattle.sgf_properties.proofs.ValueEnds.{span-join}
pub use Rattle.sgf_properties.specs.Front.{is_letter, name_in}
pub use Rattle.sgf_properties.specs.KeptLengths.{AreKeptLengths}
pub use Rattle.sgf_properties.specs.Offsets.{ArePoints, in_escape, in_units, IsBracket, IsPoint, IsSpan, IsUnended, IsValueEnd, SpellsValue}
pub use Rattle.sgf_properties.specs.RawValue.{escaped, IsValue, no_unit, ordinary}
pub use Rattle.sgf_outline.specs.declared.layout.OwnNodes.{OwnNodes}
pub use Rattle.sgf_outline.specs.FileOrder.{below, further_nodes, game_of, IsAtOrBelow, IsLastBelow, IsLeaf, itself, nodes_from, ordered_nodes, OrderedNode, place_at, sequence_start}
pub use Rattle.sgf_outline.specs.Machine.{add_node, after_escape, after_game, after_name, after_node, after_value, between_games, close, close_in, ended, first_of_mark, in_name, in_node, in_value, joined, MachineState, new_game, new_node, opened, property_of, second_of_mark, Stack, start, Started, UnclosedGame, whole_game, whole_games, with_property}
unfoldable pub use Rattle.sgf_outline.specs.Machine.{accepted, collection_of, next_state, run}
pub use Rattle.sgf_outline.specs.Move.{EndsNode, IsMove, IsMoveNode, IsShortProperty}
pub use Rattle.sgf_outline.specs.Outlining.{HoldsSequences}
pub use Rattle.sgf_outline.specs.OwnNodes.{AreOwnNodes, Coming, coming_of, Copies, CopiesNode, IsCopied, nothing, own_of, places_of, with_game}
pub use Rattle.sgf_outline.specs.Spelling.{AreGames, AreNodes, AreProperties, ArePropValues, byte_order_mark, ByteOrderMark, games, is_lower, is_upper, is_white_space, IsNode, IsProperty, IsPropValue, Letters, lower, no_byte_order_mark, no_game, no_letter, no_node, no_property, no_value, no_white_space, node, nodes, prop_value, properties, property, Spells, spells, upper, value, white_space, WhiteSpace}
pub use Rattle.sgf_outline.specs.Tree.{game, game_count, Games, leaf_count, no_games, Node, node_count, Property, values}
pub use Rattle.sgf_outline.specs.Unclosed.{unclosed_count}
pub use Rattle.sgf_outline.specs.Written.{node_text, property_text, value_text}
pub use Rattle.sgf_tree.specs.declared.numbered.Numbered.{Numbered}
pub use Rattle.sgf_tree.specs.declared.reader.own_nodes.NodesRead.{NodesRead}
pub use Rattle.sgf_tree.specs.Refusal.{IsFaultyAt}
pub use Rattle.sgf_tree.specs.inner.GamesRead.{IsByteOrderMarkRead, IsGameRead, lasts, own_nodes, ReadsWhole, StandsBetween, tip, unclosed_lasts, unclosed_nodes}
pub use Rattle.sgf_tree.specs.inner.NodesRead.{AreNodesRead, AreOwnRead, AreReadTo, NodesSoFar}
pub use Rattle.sgf_tree.specs.inner.Placing.{HoldsNodes, ordered_places}
pub use Rattle.sgf_tree.specs.inner.Progress.{ComesTo}
pub use Rattle.sgf_tree.specs.inner.PropertiesRead.{ArePropertiesRead, AreValuesEnded, IsNameRead, IsPropertyRead, StandsAfterNode, StandsIn, with_properties}
pub use Rattle.sgf_outline.proofs.Starts.{first-start, starts-are, starts_from}
pub use Rattle.sgf_outline.proofs.Outlined.{same-game, sequence-further}
