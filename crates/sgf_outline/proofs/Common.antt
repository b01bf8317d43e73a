-- What the proofs of this crate import together: words of specs, types, and lemmas of the standard library.
pub use Rattle.std.proofs.Common.{All, Bool, IsTrue, List, MatchOption, None, Option, Some, [], ap, append-nil, append_assoc, arith, cond, drop, drop-drop, eq-eqb, eqb, eqb-true, false, flat_map, get_or, get_or-append-add, get_or-drop, inl, inr, le-leb, le-ltb, length, length-append, length-drop, lt-ltb, map, nat_eq, ne_eqb, not, option_map, refl, rules, slice_get, slice_range, subst, suc, sym, take, true, zero, ℕ, ◌%◌, ◌++◌, ◌+◌, ◌-◌, ◌/◌, ◌<◌, ◌^◌, ◌∙◌, ◌∷◌, ◌≡◌, ◌≢◌, ◌≤◌, ◌⊎◌}
pub use Rattle.std.proofs.lemmas.Bool.{and_from, cases_lt, false≢true, or_left}
pub use Rattle.std.proofs.lemmas.Grind.{common_steps}
pub use Rattle.std.proofs.lemmas.List.{drop-append-le, drop_all, drop_more, get_or-append_right, get_or_default, get_or_past, length-map, map-append, take_at, take_rest, take_all}
pub use Rattle.std.proofs.lemmas.List.Elements.{All-append, All-cons, All-more, All-nil, All-push}
pub use Rattle.std.proofs.lemmas.Option.{get_or_from_slice_get, same_Some, slice_get-get_or, slice_get-map, slice_get_cases, slice_get_read, slice_get_within}
pub use Rattle.std.specs.List.{range_with_len}
pub use Rattle.sgf_properties.proofs.FrontSpelled.{properties-in, ends-values, white-byte, white-join, white-none, white-past, white-same}
pub use Rattle.sgf_properties.proofs.Iterating.{byte-at, count-properties-held, held-past, no-property, run-drop, white-between}
pub use Rattle.sgf_properties.proofs.KeptLengths.{kept-drop}
pub use Rattle.sgf_properties.proofs.PlacedBytes.{above}
pub use Rattle.sgf_properties.proofs.Spans.{empty-span}
pub use Rattle.sgf_properties.specs.Front.{ArePropertiesIn, is_letter, NoPropertyFollows, NoValueFollows, properties_in}
pub use Rattle.sgf_properties.specs.Offsets.{is_ordinary, IsSpan, IsValueEnd}
pub use Rattle.sgf_properties.specs.RawValue.{IsValue, no_unit, ordinary}
pub use Rattle.sgf_properties.specs.Written.{GoesOn}
pub use Rattle.sgf_outline.specs.declared.layout.Segment.{Segment}
pub use Rattle.sgf_outline.specs.declared.sequences.KeptSegment.{KeptSegment}
pub use Rattle.sgf_outline.specs.declared.sequences.Sequence.{Sequence}
pub use Rattle.sgf_outline.specs.declared.sequences.Sequences.{Sequences}
pub use Rattle.sgf_outline.specs.FileOrder.{further_nodes, game_of, IsLeaf, node_at, nodes_at, nodes_from, opening_numbers, ordered_nodes, OrderedNode, parent_at, place_at, PlacesRise, sequence_end, sequence_numbers, sequence_start, sequence_starts}
pub use Rattle.sgf_outline.specs.Listing.{Listed, listed, sequences_of, unclosed_list}
pub use Rattle.sgf_outline.specs.Machine.{after_game, close, close_in, games_in, Stack, UnclosedGame, whole_game}
pub use Rattle.sgf_outline.specs.Move.{EndsNode, IsMove, IsMoveNode, IsShortProperty}
pub use Rattle.sgf_outline.specs.NodesLeft.{NodesLeft}
pub use Rattle.sgf_outline.specs.Outlining.{AreKept, AreTold, AreWhole, game_by, HasSegments, HoldsSequences, is_last_by, is_written_by, IsCopiedFirst, IsKept, IsOutlined, nodes_of, outer_by, start_by}
pub use Rattle.sgf_outline.specs.OwnNodes.{AreOwnNodes, Coming, coming_of, Copies, IsCopied, nothing, own_of, with_game, with_text}
pub use Rattle.sgf_outline.specs.Spelling.{AreGames, AreNodes, AreProperties, byte_order_mark, ByteOrderMark, games, is_upper, is_white_space, IsNode, IsProperty, no_byte_order_mark, no_game, no_letter, no_node, no_property, no_value, no_white_space, node, nodes, prop_value, properties, property, Spells, spells, upper, white_space, WhiteSpace}
pub use Rattle.sgf_outline.specs.Tree.{game, game_count, Games, joined, lone_property, no_games, Node, node_count, Property}
pub use Rattle.sgf_outline.specs.Unclosed.{unclosed_count}
pub use Rattle.sgf_outline.specs.Written.{node_text, property_text}
pub use Rattle.sgf_outline.specs.inner.Lead.{AreOtherProperties, AreOthers, IsEmptyNode, IsLedNode, IsLoneFront, IsNodeEnd, IsOtherProperty}
pub use Rattle.sgf_outline.specs.inner.NodeText.{IsNodeIn, node_in}
pub use Rattle.sgf_outline.specs.inner.Traversing.{IsRest, IsTraversal, nodes_between}
pub use Rattle.sgf_properties.proofs.ValueEnds.{ordinary-other, other-ordinary, span-join}
pub use Rattle.sgf_properties.proofs.Ends.{IsEnd, all, end-AreProperties, end-WhiteSpace, end-drop, tail}
pub use Rattle.sgf_properties.proofs.FirstProperty.{ends-at, follows-at, head-same, left-after, properties-more, upper-first}
pub use Rattle.sgf_properties.proofs.Classes.{between-not_upper, between-not_white_space, white-not_bracket, white-not_upper}
pub use Rattle.sgf_properties.proofs.Taking.{taken-all, taken-at}
