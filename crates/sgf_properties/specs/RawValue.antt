-- What stands between the brackets of a value (SGF FF[4], ValueType and Escaping): any number of units. No unit is a bare `]`, so
-- they end at the first `]` that no `\` escapes. IsPropValue (Spelling) requires this `]` after them. `s` is the text from the
-- first unit on, and `r` is the text after the last one.
use Rattle.std.specs.Prelude.{◌≢◌, ℕ, List, [], ◌∷◌}
use Rattle.sgf_properties.specs.Bytes.{backslash, close_bracket}

-- a raw value: units, each of which is one byte other than `]` and `\`, or a `\` and any byte
pub data IsValue : List ℕ → List ℕ → List ℕ → Type 0 where
  no_unit : {s : List ℕ} → IsValue [] s s
  ordinary : {b : ℕ} {value s r : List ℕ} → b ≢ close_bracket → b ≢ backslash → IsValue value s r → IsValue (b ∷ value) (b ∷ s) r
  escaped : {b : ℕ} {value s r : List ℕ} → IsValue value s r → IsValue (backslash ∷ b ∷ value) (backslash ∷ b ∷ s) r
