-- Where the end of a raw value is searched for: words of private contracts in `value`, and of their proofs.
use Rattle.std.specs.Prelude.{◌≡◌, ◌≢◌, ℕ, ◌+◌, ◌-◌, ◌*◌, ◌<◌, ◌≤◌, List, ◌∷◌, length, slice_index, drop}
use Rattle.sgf_properties.specs.Bytes.{backslash, close_bracket}
use Rattle.sgf_properties.specs.RawValue.{IsValue}

-- no `]` stands from `at` to `end`
abbrev pub HasNoBracket : List ℕ → ℕ → ℕ → Type 0
HasNoBracket text at end = (index : ℕ) → at ≤ index → index < end → slice_index text index ≢ close_bracket

-- the first `]` from `at` on is at `end`
pub record IsNextBracket (text : List ℕ) (at end : ℕ) : Type 0 where
  pub rises : at ≤ end
  pub within : end < length text
  pub bracket : slice_index text end ≡ close_bracket
  pub before : HasNoBracket text at end

-- the bytes from `first` to `end` are the run of `\` just before `end`, as far as it stands from `at` on
pub record AreBackslashesBefore (text : List ℕ) (at first end : ℕ) : Type 0 where
  pub low : at ≤ first
  pub rises : first ≤ end
  pub escapes : (index : ℕ) → first ≤ index → index < end → slice_index text index ≡ backslash
  pub begins : at < first → slice_index text (first - 1) ≢ backslash

-- the bytes from `at` to `end` are escapes, each of a `\` and a byte
pub record AreEscapes (text : List ℕ) (at end : ℕ) : Type 0 where
  pub within : end ≤ length text
  pub count : ℕ
  pub bytes : end ≡ at + 2 * count
  pub each : (index : ℕ) → index < count → slice_index text (at + 2 * index) ≡ backslash

-- no raw value begins at `at`
abbrev pub SpellsNoValue : List ℕ → ℕ → Type 0
SpellsNoValue text at = (value rest : List ℕ) → ¬ IsValue value (drop at text) (close_bracket ∷ rest)
