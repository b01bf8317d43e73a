-- What the proofs of this crate import together: words of specs, types, and lemmas of the standard library.
pub use Rattle.std.proofs.lemmas.List.Elements.{All-push, filter-append, filter_more}
pub use Rattle.std.specs.Int.Count.{count_trailing_zeros}
pub use Rattle.std.specs.List.{list_all}
pub use Rattle.std.specs.Simd.Lanes.{chunk, mask_l, top, zip2}
pub use Rattle.std.proofs.Common.{Bool, Bor, IsSome, IsTrue, List, MatchOption, None, Option, Some, [], add-one, ap, append-nil, append_assoc, arith, cond, drop, drop-cons, drop-drop, eq-eqb, eqb, eqb-true, false, filter, get_or, get_or-drop, get_or-take, if◌then◌else◌, inl, inr, le-leb, leb, leb-true, length, length-append, length-drop, length-take, length-take-le, ltb, map, mul-le-mul_right, nat_le, ne_eqb, not, option_copied, pow-suc, refl, replicate, rules, slice_get, slice_range, subst, suc, sym, take, take-add, take-append-drop, true, vec_capacity, vec_len, w64, w8, zero, ℕ, ◌%◌, ◌&&◌, ◌*◌, ◌++◌, ◌+◌, ◌-◌, ◌/◌, ◌<◌, ◌==◌, ◌^◌, ◌∙◌, ◌∷◌, ◌≡◌, ◌≢◌, ◌≤◌, ◌⊎◌}
pub use Rattle.std.proofs.lemmas.Bool.{and_parts, cases_eq, cases_lt, eqb-false, false_from_ne_true, false≢true, not-true, or_cases, or_left, or_right}
pub use Rattle.std.proofs.lemmas.Grind.{common_steps}
pub use Rattle.std.proofs.lemmas.List.{drop_all, drop_more, get_or_at, length-map, take_more, take_rest}
pub use Rattle.std.proofs.lemmas.Simd.{bit_mask_l, bitmask_splat, first_set_mask_l, get_or-chunk, get_or-zip2, length-chunk, length-zip2, mask_l-mod, none_from_empty_mask, run_in_chunk_fails, run_in_chunk_le, run_in_chunk_stops, tops_compared, trailing_mask_l}
pub use Rattle.std.proofs.Math.ListN.{get_or-eq_default}
pub use Rattle.std.proofs.lemmas.Bool.Decides.{nat_tests}
pub use Rattle.std.proofs.lemmas.Nat.Bits.{bit_at-trailing_zeros}
pub use Rattle.sgf_properties.specs.Front.{ArePropertiesIn, AreValuesIn, by_front, is_letter, name_in, NoPropertyFollows, NoValueFollows, property_from}
unfoldable pub use Rattle.sgf_properties.specs.Front.{after_raw_value, after_values_up_to, front, left_after, properties_in, properties_up_to, raw_value, values_in, values_up_to}
pub use Rattle.sgf_properties.specs.Number.{decimal_value, is_digit}
pub use Rattle.sgf_properties.specs.Offsets.{AreOrdinary, ArePoints, in_escape, in_units, is_ordinary, IsBracket, IsPoint, IsSpan, IsUnended, IsValueEnd, SpellsValue}
pub use Rattle.sgf_properties.specs.Property.{Property, values}
pub use Rattle.sgf_properties.specs.RawValue.{escaped, IsValue, no_unit, ordinary}
pub use Rattle.sgf_properties.specs.Spelling.{AreProperties, ArePropValues, is_lower, is_upper, is_white_space, IsProperty, IsPropValue, Letters, lower, no_letter, no_property, no_value, no_white_space, prop_value, properties, property, upper, value, white_space, WhiteSpace}
pub use Rattle.sgf_properties.specs.Text.{after_backslash, escaped_break, escaped_byte, escaped_pair, is_break, is_pair, IsDecoded, last_backslash, line_break, MakesNoPair, nothing, ordinary_byte, pair, text_of, unescaped}
pub use Rattle.sgf_properties.specs.inner.Iterating.{IsNoPropValue, IsPastValues, values_left}
pub use Rattle.sgf_properties.specs.inner.Literals.{AreLiterals, is_literal}
pub use Rattle.sgf_properties.specs.inner.Searches.{AreBackslashesBefore, AreEscapes, HasNoBracket, IsNextBracket, SpellsNoValue}
pub use Rattle.std.proofs.Math.Seq.{drop-length, get_or-append_seam}
