-- The lengths of the long values of a text, as far as they were kept. A reader may keep those of only some values.
use Rattle.std.specs.Prelude.{◌≡◌, ℕ, ◌+◌, List, length, All}
use Rattle.sgf_properties.specs.Offsets.{IsValueEnd}
use Rattle.sgf_properties.specs.declared.value.LongValue.{LongValue}

-- if the text has `left` bytes from an offset on, a raw value of `bytes` bytes begins there
abbrev pub IsKeptLength : List ℕ → LongValue → Type 0
IsKeptLength text long = (at : ℕ) → at + long.left ≡ length text → IsValueEnd text at (at + long.bytes)

-- each entry is a kept length
abbrev pub AreKeptLengths : List ℕ → List LongValue → Type 0
AreKeptLengths text entries = All (IsKeptLength text) entries
