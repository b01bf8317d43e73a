-- Where the identifier of a property begins and ends.
use Rattle.sgf_properties.proofs.Common.{◌≡◌, ℕ, ◌+◌, ◌<◌, IsTrue, List, [], ◌∷◌, length, get_or, slice_range, ap, arith, get_or-drop, length-drop, cases_lt, or_left, false≢true, common_steps, take_more, is_letter, IsSpan, IsBracket, is_white_space, is_upper}
use Rattle.sgf_properties.proofs.Spans.{empty-span}
use Rattle.sgf_properties.proofs.ValueEnds.{span-join}

-- one byte
pub span-one : (t : List ℕ) (at : ℕ) → at < length t → slice_range t at (at + 1) ≡ get_or t at 0 ∷ []
span-one t at lt = grind (arith, common_steps, length-drop, take_more, get_or-drop)

-- a name is read from its first letter on
pub name-longer : (t : List ℕ) (start end : ℕ) → start < length t → IsTrue (is_upper (get_or t start 0)) → IsSpan is_letter t start end → start < end
name-longer t start end lt capital letters = grind (arith, common_steps, cases_lt, false≢true, or_left)

pub name-begins : (t : List ℕ) (start end : ℕ) → start < length t → IsTrue (is_upper (get_or t start 0)) → IsSpan is_letter t start end
    → slice_range t start end ≡ get_or t start 0 ∷ slice_range t (start + 1) end
name-begins t start end lt capital letters = grind (arith, common_steps, name-longer, span-join, span-one)

-- no white space stands before a `[` that is there
pub bracket-here : (t : List ℕ) (at : ℕ) → IsBracket t at → IsSpan is_white_space t at at
bracket-here t at stands = empty-span t at (omega (arith, stands.within)) (λ lt. ap is_white_space stands.bracket)
