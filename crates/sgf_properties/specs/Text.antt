-- The decoded text of a raw value (SGF FF[4], Text).
use Rattle.std.specs.Prelude.{◌≡◌, ◌≢◌, ℕ, Bool, false, IsTrue, ◌||◌, ◌&&◌, ◌==◌, if◌then◌else◌, List, [], ◌∷◌, ◌++◌}
use Rattle.sgf_properties.specs.Bytes.{tab, line_feed, vertical_tab, form_feed, carriage_return, space, backslash}

-- LF or CR
abbrev pub is_break : ℕ → Bool
is_break b = b == line_feed || b == carriage_return

-- CR LF or LF CR: such a pair is one line break (this project's choice; pairs are taken from the left)
abbrev pub is_pair : ℕ → ℕ → Bool
is_pair byte next = byte == carriage_return && next == line_feed || byte == line_feed && next == carriage_return

-- tab, vertical tab and form feed become a space; every other byte stays
abbrev pub spaced : ℕ → ℕ
spaced b = if b == tab || b == vertical_tab || b == form_feed then space else b

-- the byte and the next one, if there is one, aren't a pair
abbrev pub MakesNoPair : ℕ → List ℕ → Type 0
MakesNoPair byte [] = Unit {0}
MakesNoPair byte (next ∷ rest) = is_pair byte next ≡ false

-- The text of a raw value. Each rule says what the first bytes of the value become. The text of the other bytes comes after that.
pub data IsDecoded : List ℕ → List ℕ → Type 0 where
  -- nothing, or a `\` as the last byte: nothing
  nothing : IsDecoded [] []
  last_backslash : IsDecoded (backslash ∷ []) []
  -- a `\` and a line break, of two bytes or one: nothing
  escaped_pair : {first second : ℕ} {rest text : List ℕ} → IsTrue (is_pair first second) → IsDecoded rest text → IsDecoded (backslash ∷ first ∷ second ∷ rest) text
  escaped_break : {byte : ℕ} {rest text : List ℕ} → IsTrue (is_break byte) → MakesNoPair byte rest → IsDecoded rest text → IsDecoded (backslash ∷ byte ∷ rest) text
  -- a `\` and another byte: that byte, spaced
  escaped_byte : {byte : ℕ} {rest text : List ℕ} → is_break byte ≡ false → IsDecoded rest text → IsDecoded (backslash ∷ byte ∷ rest) (spaced byte ∷ text)
  -- a line break, of two bytes or one: an LF
  pair : {first second : ℕ} {rest text : List ℕ} → IsTrue (is_pair first second) → IsDecoded rest text → IsDecoded (first ∷ second ∷ rest) (line_feed ∷ text)
  line_break : {byte : ℕ} {rest text : List ℕ} → IsTrue (is_break byte) → MakesNoPair byte rest → IsDecoded rest text → IsDecoded (byte ∷ rest) (line_feed ∷ text)
  -- another byte: that byte, spaced
  ordinary_byte : {byte : ℕ} {rest text : List ℕ} → byte ≢ backslash → is_break byte ≡ false → IsDecoded rest text → IsDecoded (byte ∷ rest) (spaced byte ∷ text)

-- what an unescaped byte becomes: an LF for a line break, else `spaced` of the byte
abbrev pub unescaped : ℕ → ℕ
unescaped b = if is_break b then line_feed else spaced b

-- what a byte after a `\` becomes: nothing for a line break, else `spaced` of the byte
abbrev pub after_backslash : ℕ → List ℕ
after_backslash b = if is_break b then [] else spaced b ∷ []

-- the decoded text as a function: at each step it takes the first rule that fits
abbrev pub text_of : List ℕ → List ℕ
text_of [] = []
text_of (byte ∷ []) = if byte == backslash then [] else unescaped byte ∷ []
text_of (byte ∷ next ∷ []) =
    if byte == backslash then after_backslash next
    else (if is_pair byte next then line_feed ∷ []
    else unescaped byte ∷ text_of (next ∷ []))
text_of (byte ∷ next ∷ third ∷ rest) =
    if byte == backslash then (if is_pair next third then text_of rest else after_backslash next ++ text_of (third ∷ rest))
    else (if is_pair byte next then line_feed ∷ text_of (third ∷ rest)
    else unescaped byte ∷ text_of (next ∷ third ∷ rest))
