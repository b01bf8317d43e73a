-- The bytes of a value that stand for themselves.
use Rattle.std.specs.Prelude.{ℕ, ◌<◌, ◌≤◌, ◌==◌, Bool, not, ◌||◌, ◌&&◌, nat_le, List, slice_index, IsTrue}
use Rattle.sgf_properties.specs.Bytes.{tab, carriage_return, backslash}

-- neither a `\` nor one of tab, LF, vertical tab, form feed and CR
abbrev pub is_literal : ℕ → Bool
is_literal byte = not (byte == backslash || nat_le tab byte && nat_le byte carriage_return)

-- the bytes from `at` to `end` are literal
abbrev pub AreLiterals : List ℕ → ℕ → ℕ → Type 0
AreLiterals text at end = (index : ℕ) → at ≤ index → index < end → IsTrue (is_literal (slice_index text index))
