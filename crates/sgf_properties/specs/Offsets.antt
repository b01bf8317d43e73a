-- What stands at an offset of a text, and what stands from one offset to another.
use Rattle.std.specs.Prelude.{◌≡◌, ◌≢◌, ℕ, ◌+◌, ◌*◌, ◌<◌, ◌≤◌, Bool, false, not, ◌&&◌, ◌==◌, List, length, slice_index, slice_range, drop, IsTrue}
use Rattle.sgf_properties.specs.Bytes.{open_bracket, backslash, close_bracket}
use Rattle.sgf_properties.specs.RawValue.{IsValue}
use Rattle.sgf_properties.specs.Spelling.{is_white_space}

-- the bytes from `at` to `end` pass the test, and the byte after them doesn't
pub record IsSpan (test : ℕ → Bool) (text : List ℕ) (at end : ℕ) : Type 0 where
  pub rises : at ≤ end
  pub within : end ≤ length text
  pub passing : (index : ℕ) → at ≤ index → index < end → IsTrue (test (slice_index text index))
  pub stops : end < length text → test (slice_index text end) ≡ false

-- a byte of a value that neither ends it nor begins an escape
abbrev pub is_ordinary : ℕ → Bool
is_ordinary byte = not (byte == close_bracket) && not (byte == backslash)

-- the bytes from `at` to `end` are ordinary
pub record AreOrdinary (text : List ℕ) (at end : ℕ) : Type 0 where
  pub rises : at ≤ end
  pub within : end ≤ length text
  pub passing : (index : ℕ) → at ≤ index → index < end → IsTrue (is_ordinary (slice_index text index))

-- a `[` stands at `at`
pub record IsBracket (text : List ℕ) (at : ℕ) : Type 0 where
  pub within : at < length text
  pub bracket : slice_index text at ≡ open_bracket

-- the bytes from `at` to `end` are units of a value
abbrev pub SpellsValue : List ℕ → ℕ → ℕ → Type 0
SpellsValue text at end = IsValue (slice_range text at end) (drop at text) (drop end text)

-- the raw value that begins at `at` ends at `end`, where its `]` is
pub record IsValueEnd (text : List ℕ) (at end : ℕ) : Type 0 where
  pub rises : at ≤ end
  pub within : end < length text
  pub bracket : slice_index text end ≡ close_bracket
  pub spelled : SpellsValue text at end

-- A raw value that begins at `at` doesn't end in the text: its units go on up to the end of the text, or up to a `\` that is the last byte.
pub data IsUnended (text : List ℕ) (at : ℕ) : Type 0 where
  in_units : SpellsValue text at (length text) → IsUnended text at
  in_escape : (last : ℕ) → at ≤ last → last + 1 ≡ length text → slice_index text last ≡ backslash → SpellsValue text at last → IsUnended text at

-- two ordinary bytes and a `]`
pub record IsTwoOrdinary (text : List ℕ) (at : ℕ) : Type 0 where
  pub within : at + 2 < length text
  pub ordinary : AreOrdinary text at (at + 2)
  pub bracket : slice_index text (at + 2) ≡ close_bracket

-- a value like `[pd]` stands at `at`
pub record IsPoint (text : List ℕ) (at : ℕ) : Type 0 where
  pub begins : slice_index text at ≡ open_bracket
  pub value : IsTwoOrdinary text (at + 1)

-- values like `[pd]` stand from `from` to `end`, one after the other
pub record ArePoints (text : List ℕ) (from end : ℕ) : Type 0 where
  pub count : ℕ
  pub ends : from + 4 * count ≡ end
  pub each : (index : ℕ) → index < count → IsPoint text (from + 4 * index)

-- after any white space at `at` no `[` comes
pub record IsPropertyEnd (text : List ℕ) (at : ℕ) : Type 0 where
  pub next : ℕ
  pub white_space : IsSpan is_white_space text at next
  pub other : next < length text → slice_index text next ≢ open_bracket
