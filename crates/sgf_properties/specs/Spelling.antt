-- Which texts spell properties: the EBNF of SGF FF[4], from Property down to the brackets of a value. Between these stand any bytes, with
-- escapes (`RawValue.antt`). In each relation `s` is the text from the beginning of a thing on, and `r` is the text after the
-- thing. `t`, `u`, `w` and the longer names are the text after one of its parts.
use Rattle.std.specs.Prelude.{ℕ, Bool, ◌||◌, ◌&&◌, ◌==◌, nat_le, IsTrue, List, [], ◌∷◌}
use Rattle.sgf_properties.specs.Bytes.{tab, line_feed, vertical_tab, form_feed, carriage_return, space, capital_a, capital_z, open_bracket, close_bracket, small_a, small_z}
use Rattle.sgf_properties.specs.RawValue.{IsValue}
use Rattle.sgf_properties.specs.Property.{Property}

-- white space: space, tab, line feed, carriage return, vertical tab, form feed (this project's choice)
abbrev pub is_white_space : ℕ → Bool
is_white_space b = b == space || b == tab || b == line_feed || b == carriage_return || b == vertical_tab || b == form_feed

-- A to Z
abbrev pub is_upper : ℕ → Bool
is_upper b = nat_le capital_a b && nat_le b capital_z

-- a to z
abbrev pub is_lower : ℕ → Bool
is_lower b = nat_le small_a b && nat_le b small_z

-- any amount of white space
pub data WhiteSpace : List ℕ → List ℕ → Type 0 where
  no_white_space : {s : List ℕ} → WhiteSpace s s
  white_space : {b : ℕ} {s r : List ℕ} → IsTrue (is_white_space b) → WhiteSpace s r → WhiteSpace (b ∷ s) r

-- letters; the upper-case ones are the name (skipping lower-case ones is this project's choice)
pub data Letters : List ℕ → List ℕ → List ℕ → Type 0 where
  no_letter : {s : List ℕ} → Letters [] s s
  upper : {b : ℕ} {name s r : List ℕ} → IsTrue (is_upper b) → Letters name s r → Letters (b ∷ name) (b ∷ s) r
  lower : {b : ℕ} {name s r : List ℕ} → IsTrue (is_lower b) → Letters name s r → Letters name (b ∷ s) r

-- PropValue = "[" value "]"
pub data IsPropValue : List ℕ → List ℕ → List ℕ → Type 0 where
  prop_value : {value s t r : List ℕ} → WhiteSpace s (open_bracket ∷ t) → IsValue value t (close_bracket ∷ r) → IsPropValue value s r

-- { PropValue }
pub data ArePropValues : List (List ℕ) → List ℕ → List ℕ → Type 0 where
  no_value : {s : List ℕ} → ArePropValues [] s s
  value : {v s t r : List ℕ} {vs : List (List ℕ)} → IsPropValue v s t → ArePropValues vs t r → ArePropValues (v ∷ vs) s r

-- Property = PropIdent PropValue { PropValue }, where PropIdent begins with an upper-case letter
pub data IsProperty : Property → List ℕ → List ℕ → Type 0 where
  property : {b : ℕ} {name v s t u w r : List ℕ} {vs : List (List ℕ)} → WhiteSpace s (b ∷ t) → IsTrue (is_upper b) → Letters name t u
      → IsPropValue v u w → ArePropValues vs w r
      → IsProperty (record { name = b ∷ name; first = v; more = vs }) s r

-- { Property }
pub data AreProperties : List Property → List ℕ → List ℕ → Type 0 where
  no_property : {s : List ℕ} → AreProperties [] s s
  properties : {p : Property} {ps : List Property} {s t r : List ℕ} → IsProperty p s t → AreProperties ps t r → AreProperties (p ∷ ps) s r
