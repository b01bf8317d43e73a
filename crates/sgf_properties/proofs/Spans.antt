-- Spans of a text, by the offsets of their bytes.
use Rattle.sgf_properties.proofs.Common.{false, ◌≡◌, ℕ, ◌+◌, ◌-◌, ◌<◌, ◌≤◌, List, [], ◌∷◌, ◌++◌, length, get_or, slice_range, get_or-drop, length-drop, arith, rules, take_more, IsSpan, is_white_space}

module _ (t : List ℕ) where
  -- no white space, before a byte that is none
  pub empty-span : (at : ℕ) → at ≤ length t → (at < length t → is_white_space (get_or t at 0) ≡ false) → IsSpan is_white_space t at at
  empty-span at within stops = record { rises = omega arith; within = within; passing = λ i low high. absurd (omega arith); stops = stops }

  -- a span of no byte, and one of one more byte
  pub span-none : (at : ℕ) → slice_range t at at ≡ []
  span-none at = let e : at - at ≡ 0 = omega arith in rw e

  pub span-more : (at i : ℕ) → at ≤ i → i < length t → slice_range t at (i + 1) ≡ slice_range t at i ++ get_or t i 0 ∷ []
  span-more at i le lt =
      let f : at + (i - at) ≡ i = omega arith in
      search (rules, length-drop, take_more, get_or-drop)
