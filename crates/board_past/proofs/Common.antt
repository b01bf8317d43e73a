-- What the proofs of this crate import together: words of specs, types, and lemmas of the standard library.
pub use Rattle.std.specs.Int.{bit_at, from_be_bytes, trailing_zeros}
pub use Rattle.std.proofs.Math.Facts.{Fits-lt-pow, Fits-of_lt, Fits-xor}
pub use Rattle.std.proofs.lemmas.Bool.{and_parts, cases_Bool, cases_eq, cases_lt, false≢true, not-false, or_left, or_parts, or_right}
pub use Rattle.std.proofs.lemmas.List.{drop-set, drop_all, get_or-reverse, get_or_append_left, get_or_default, length-map, length-reverse, nil_from_length, reverse-append, set-get_or, take_more, take_rest, get_or_past}
pub use Rattle.std.proofs.lemmas.List.Elements.{All-append, All-drop, All-get_or, All-head, All-nil, All-push, All-tail, All-take, All-weaker, Contains-append_right}
pub use Rattle.std.proofs.lemmas.Nat.Bits.{bit_at-suc, bit_at-trailing_zeros, bit_at-zero, bit_at_cat_high, bit_at_cat_low, bit_at_lowest, same_from_bits, same_from_bits_below}
pub use Rattle.std.proofs.lemmas.Option.{same_Some}
pub use Rattle.std.proofs.Common.{[], add-mul, All, ap, append-nil, append_assoc, arith, below_more, bit_and, bit_or, bit_xor, Bool, cond, Contains, drop, drop-drop, drop_at, eq-eqb, false, fold, get_or, get_or-set_other, get_or-set_same, IfNone, IfSome, if◌then◌else◌, inl, inr, IsErr, IsFalse, IsTrue, length, length-append, length-set, length-take, List, lt-ltb, map, mul-add, ne_eqb, None, not, Ok, Option, option_to_list, pow-add, pow_pos, refl, Result, reverse, rules, set, set-set, slice_index, slice_range, slice_set, Some, subst, suc, suc-mul, sym, take, take-append-drop, take-take, take_all, take_at, true, vec_capacity, w64, zero, ℕ, ◌%◌, ◌&&◌, ◌*◌, ◌++◌, ◌+◌, ◌-◌, ◌/◌, ◌<◌, ◌==◌, ◌^◌, ◌||◌, ◌↔◌, ◌∙◌, ◌∷◌, ◌≡◌, ◌≢◌, ◌≤◌, ◌⊎◌}
pub use Rattle.std.proofs.lemmas.Grind.{common_steps, get_or_default_zero}
pub use Rattle.std.proofs.lemmas.Nat.{mul-mod, mod_below, mul-mod_second, shr_split}
pub use Rattle.std.proofs.Math.Nat.{add-mod-mod, mod-add-div, add-mul-mod_self_left, mod-add-mod, pow-succ', zero-mod}
pub use Rattle.std.proofs.lemmas.List.FromFn.{get_or-map-range_with_len}
pub use Rattle.std.specs.List.{range_with_len}
pub use Rattle.board_stones.proofs.GroupLemmas.{one_colouring, stone_of≢Empty}
pub use Rattle.board_stones.proofs.StoneRowsLemmas.{bit_same}
pub use Rattle.board_points.proofs.PointLemmas.{same_or_not, index_below}
pub use Rattle.board_points.proofs.WordLemmas.{bit_at-gone, bit_at-mod, has_bit-and, has_bit-zero, bit_at-there, has_bit-or}
pub use Rattle.board_stones.proofs.GridLemmas.{cell_at-with_cell, cell_at-with_cell_elsewhere, Decides-cell_eq, Decides-same_cell, cell_at-grid_of, length-grid_of, same_stones}
pub use Rattle.board_stones.proofs.SettledLemmas.{settled_by_play, side_play}
pub use Rattle.key_trie.proofs.TrieLemmas.{agree_self, parts_as, way_nearest, agree_back, agree_less, agree_on, opening_same, trie_same}
pub use Rattle.board_points.specs.declared.points.Point.{Point}
pub use Rattle.board_points.specs.Point.{index_of, IsOn}
pub use Rattle.board_points.specs.Rows.{AreRowsOf, has_bit, is_set, IsAmong}
pub use Rattle.key_trie.specs.declared.trie.Trie.{Trie}
pub use Rattle.key_trie.specs.Key.{Agree}
pub use Rattle.key_trie.specs.Trie.{capacity_of, child_at, IsNearest, IsOpening, IsParting, IsTrie, IsWayTo, item_count, nodes_of}
pub use Rattle.board_stones.specs.declared.stones.Cell.{Cell}
pub use Rattle.board_stones.specs.declared.stones.Cell.TheVariants.{Black, Empty, White}
pub use Rattle.board_stones.specs.declared.stones.Colour.{Colour}
pub use Rattle.board_stones.specs.Clearing.{has_unreaching, play}
pub use Rattle.board_stones.specs.Colour.{same_cell, stone_of}
pub use Rattle.board_stones.specs.Grid.{cell_at, empty_grid, Grid, with_cell}
unfoldable pub use Rattle.board_stones.specs.Grid.{with_row}
pub use Rattle.board_stones.specs.Move.{Clears, IsMove}
pub use Rattle.board_stones.specs.Rectangle.{with_rectangle}
pub use Rattle.board_past.specs.declared.past.print_past.changes.Change.{Change}
pub use Rattle.board_past.specs.declared.past.print_past.changes.Older.{Older}
pub use Rattle.board_past.specs.declared.past.print_past.emptied.Emptied.{Emptied}
pub use Rattle.board_past.specs.declared.past.print_past.emptied.OldRow.{OldRow}
pub use Rattle.board_past.specs.declared.past.print_past.key.TheConstants.{FRONT, WIDTH}
pub use Rattle.board_past.specs.declared.past.print_past.table.Table.{Table}
pub use Rattle.board_past.specs.Past.{all_of, AllHaveSide, HaveSide, Held, IsPlayed, newest_grid, PastColourings, present_stretch, stretch_of, WasEmptied, with_next}
pub use Rattle.board_past.specs.inner.Changes.{AddsRow, after_changes, all_held, AreFresh, AreKept, AreOn, AreStarted, before, changes_before, first_grid, HasNumber, HasRoom, HasRow, held_before, is_fresh, is_full, is_settled, IsChangeOn, IsFreshStone, IsNumber, IsPast, IsRowOf, IsSameRow, KeepRows, MakeOne, step_back, with_change}
pub use Rattle.board_past.specs.inner.Emptied.{ArePlayedAtOnce, HasAllEmptied, HasEmptied, HasHistory, HasRowsBelow, IsBelow, IsEmptied, IsLogged, IsPrintPast}
pub use Rattle.board_past.specs.inner.Hash.{columns_bytes, columns_of, HasHashes, number_of, rows_bytes}
unfoldable pub use Rattle.board_past.specs.inner.Hash.{hash_of}
pub use Rattle.board_past.specs.inner.Key.{bits_of, has_stone, hash_in_key, key_bit, key_bits, keys_of, oldest, since, start_of}
pub use Rattle.board_past.specs.inner.Print.{code, in_base, number_within, prints_of, row_number, row_within, word_number}
unfoldable pub use Rattle.board_past.specs.inner.Print.{print_of}
pub use Rattle.board_past.specs.inner.Table.{GrowsTable, HasRoomForNext, IsAsleepTable, IsAwakeTable, IsGap, IsPrintOfNext, IsTable, LinksNext, most_to_link}
pub use Rattle.board_points.proofs.RowLemmas.{AddedBelow, added_all, added_next}
pub use Rattle.board_points.proofs.GrowLemmas.{each_row, row_below}
pub use Rattle.board_past.specs.declared.past.print_past.print.TheConstants.{NUMBERS}
pub use Rattle.sha2.specs.Hashers.{Holds512}
