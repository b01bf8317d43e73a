-- What the proofs of this crate import together: words of specs, types, and lemmas of the standard library.
pub use Rattle.std.specs.Int.{bit_at, bit_not, leading_zeros, rotate_left, trailing_zeros}
pub use Rattle.std.specs.List.{list_any, range_with_len}
pub use Rattle.std.proofs.Common.{[], ap, arith, bit_and, bit_or, Bool, Contains, count_ones, eqb-true, false, get_or, get_or-set_other, get_or-set_same, inl, inr, IsTrue, length, length-set, List, map, max, mod-eq_of_lt, nat_eq, nat_lt, not, pow_pos, refl, replicate, rules, set, slice_index, Some, subst, suc, sym, take, true, w64, zero, ℕ, ◌%◌, ◌&&◌, ◌*◌, ◌+◌, ◌-◌, ◌/◌, ◌<◌, ◌==◌, ◌^◌, ◌||◌, ◌∙◌, ◌∷◌, ◌≡◌, ◌≢◌, ◌≤◌, ◌⊎◌, Decides, None, add_assoc, bit_xor, cond, count_by, ext_get_or, if◌then◌else◌, le-leb, leb-true, length-take-le, min, nat_le, slice_get, slice_set, sum, sum_by, ◌++◌, ◌↔◌}
pub use Rattle.std.proofs.Math.Bool.{and-false, and-true, or-false, or-true}
pub use Rattle.std.proofs.Math.Nat.{two-pow-succ, add-mod, add-mod_left}
pub use Rattle.std.proofs.lemmas.Bool.{and_cases, and_from, and_parts, cases_Bool, cases_eq, cases_lt, eqb-false, false_from_ne_true, false≢true, not-false, not-true, or_cases, or_from, or_left, or_parts, or_right}
pub use Rattle.std.proofs.lemmas.Bool.Decides.{Decides-and, Decides-by_or, Decides-eqb, Decides-ltb, Decides-or}
pub use Rattle.std.proofs.lemmas.Grind.{common_steps}
pub use Rattle.std.proofs.lemmas.List.{get_or_past, length-map, length-replicate, length_push, take_more, take_more_set}
pub use Rattle.std.proofs.lemmas.List.Elements.{Contains-append_left, Contains-push, Contains-push_cases}
pub use Rattle.std.proofs.lemmas.List.FromFn.{get_or-map-range_with_len, get_or-range_with_len, length-map-range_with_len, sum_by-map-range_with_len_more}
pub use Rattle.std.proofs.lemmas.List.Sums.{count_by-le-length, sum-map, sum_by-set}
pub use Rattle.std.proofs.lemmas.Nat.{and_le_l, and_mask, div-mul-add, le_or_l, leading_top, mod-mul-add, mod-pow-add, mod_below, mul-add-lt, ones-le, ones_cat, pow_below, rows}
pub use Rattle.std.proofs.lemmas.Nat.Bits.{bit_at-lt, bit_at-suc, bit_at-trailing_zeros, bit_at-zero, bit_at_above, bit_at_and, bit_at_cat_high, bit_at_cat_low, bit_at_mask_above, bit_at_mask_below, bit_at_mask_inside, bit_at_not, bit_at_ones, bit_at_or, bit_at_set_other, bit_at_set_same, bit_at_xor, same_from_bits, shr_and_one}
pub use Rattle.board_points.specs.declared.fill.Direction.TheVariants.{Down, Up}
pub use Rattle.board_points.specs.declared.liberty.RowStones.{RowStones}
pub use Rattle.board_points.specs.declared.vertices.Vertex.{Vertex}
pub use Rattle.board_points.specs.Glance.{KeepsLiberty, LeavesAcross, LeavesAlong, Lives}
pub use Rattle.board_points.specs.Halves.{AreOthersPaired, high_halves, low_halves}
pub use Rattle.board_points.specs.Linked.{HasLiberty, IsLiberty, IsLinked}
pub use Rattle.board_points.specs.Marking.{is_marked, marked_count, Marking, marking_of, no_marks, with_mark}
pub use Rattle.board_points.specs.Point.{Point, are_adjacent, AreAdjacent, DifferByOne, index_of, IsOn, point_at}
unfoldable pub use Rattle.board_points.specs.Point.{points}
pub use Rattle.board_points.specs.Rows.{AreAllColumns, AreRowsOf, Grows, has_bit, is_set, IsAmong, IsClosed, IsDifference, IsWithin}
unfoldable pub use Rattle.board_points.specs.Rows.{count_apart}
pub use Rattle.board_points.specs.Search.{Finds, IsSound, Searched}
unfoldable pub use Rattle.board_points.specs.Values.{point_value, rect_value}
pub use Rattle.board_points.specs.Vertex.{column_letters}
unfoldable pub use Rattle.board_points.specs.Vertex.{vertex_of}
pub use Rattle.board_points.specs.inner.Columns.{HasBeside, HasNext, IsInOrBeside, IsOpenBeside, IsPart, IsTaken, IsWidened}
pub use Rattle.board_points.specs.inner.Fill.{AreRowsBelow, HaveGiven, HaveGivenBut, HaveMore, IsFilledBut, IsNext, lacking, opposite, row_above}
pub use Rattle.board_points.specs.inner.Joined.{HasNoneAcross, HasOneAlive}
pub use Rattle.board_points.specs.inner.Look.{AreColumnsOff, AreFree, IsInRowAround, IsLookedAt, IsNextRow, IsRowAt}
pub use Rattle.std.proofs.Math.ListN.{get_or-eq_default}
