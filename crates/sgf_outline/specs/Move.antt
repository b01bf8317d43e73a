-- Moves and short properties, as a glance shows them: words of the shortcuts.
use Rattle.std.specs.Prelude.{◌≡◌, ℕ, ◌+◌, ◌<◌, List, length, slice_index, IsTrue}
use Rattle.sgf_properties.specs.Bytes.{space, semicolon, capital_a, open_bracket, close_bracket}
use Rattle.sgf_outline.specs.Spelling.{is_upper}
use Rattle.sgf_properties.specs.Offsets.{IsTwoOrdinary, AreOrdinary}

-- a move stands at `at`, as in `B[pd]`: a capital, and two ordinary bytes between brackets
pub record IsMove (text : List ℕ) (at : ℕ) : Type 0 where
  pub capital : IsTrue (is_upper (slice_index text at))
  pub bracket : slice_index text (at + 1) ≡ open_bracket
  pub value : IsTwoOrdinary text (at + 2)

-- a node that begins like `;B[pd]` is at `at`
pub record IsMoveNode (text : List ℕ) (at : ℕ) : Type 0 where
  pub begins : slice_index text at ≡ semicolon
  pub move : IsMove text (at + 1)

-- the byte at `at` ends a node: it is greater than all white space, and less than every letter and bracket
pub record EndsNode (text : List ℕ) (at : ℕ) : Type 0 where
  pub within : at < length text
  pub above : space < slice_index text at
  pub below : slice_index text at < capital_a

-- a property of two capitals begins at `at`, as in `BL[921.325]`, and its first value has ordinary bytes; the `]` of this value is at
-- `close`
pub record IsShortProperty (text : List ℕ) (at close : ℕ) : Type 0 where
  pub first : IsTrue (is_upper (slice_index text at))
  pub second : IsTrue (is_upper (slice_index text (at + 1)))
  pub bracket : slice_index text (at + 2) ≡ open_bracket
  pub ordinary : AreOrdinary text (at + 3) close
  pub within : close < length text
  pub end : slice_index text close ≡ close_bracket
