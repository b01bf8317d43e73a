-- Functions that return the properties and the raw values at the front of a text. Views of parts of the text are defined by
-- these functions. `ArePropertiesIn` and `AreValuesIn` say that the functions agree with the grammar.
use Rattle.std.specs.Prelude.{◌≡◌, ◌≢◌, ℕ, zero, suc, Bool, false, ◌||◌, ◌==◌, if◌then◌else◌, List, [], ◌∷◌, length, filter}
use Rattle.sgf_properties.specs.Bytes.{open_bracket, backslash, close_bracket}
use Rattle.sgf_properties.specs.Property.{Property}
use Rattle.sgf_properties.specs.Spelling.{WhiteSpace, is_white_space, is_upper, is_lower, ArePropValues, AreProperties}

-- a letter of an identifier
abbrev pub is_letter : ℕ → Bool
is_letter byte = is_upper byte || is_lower byte

-- the elements after the longest front that passes a test
unfoldable pub left_after : (ℕ → Bool) → List ℕ → List ℕ
left_after test [] = []
left_after test (byte ∷ rest) = if test byte then left_after test rest else byte ∷ rest

-- the longest front that passes a test
unfoldable pub front : (ℕ → Bool) → List ℕ → List ℕ
front test [] = []
front test (byte ∷ rest) = if test byte then byte ∷ front test rest else []

-- the raw value up to the `]` that ends it
unfoldable pub raw_value : List ℕ → List ℕ
raw_value [] = []
raw_value (byte ∷ []) = []
raw_value (byte ∷ next ∷ rest) =
    if byte == close_bracket then []
    else (if byte == backslash then byte ∷ next ∷ raw_value rest
    else byte ∷ raw_value (next ∷ rest))

-- the bytes after the `]` that ends the raw value
unfoldable pub after_raw_value : List ℕ → List ℕ
after_raw_value [] = []
after_raw_value (byte ∷ []) = []
after_raw_value (byte ∷ next ∷ rest) =
    if byte == close_bracket then next ∷ rest
    else (if byte == backslash then after_raw_value rest
    else after_raw_value (next ∷ rest))

-- the function applied to the first byte and the bytes after it; `none` if there is no byte
abbrev pub by_front : {A : Type 0} → (ℕ → List ℕ → A) → A → List ℕ → A
by_front function none [] = none
by_front function none (byte ∷ rest) = function byte rest

-- up to `count` values, each after white space and a `[`
unfoldable pub values_up_to : ℕ → List ℕ → List (List ℕ)
values_up_to zero text = []
values_up_to (suc count) text =
    by_front (λ byte rest. if byte == open_bracket then raw_value rest ∷ values_up_to count (after_raw_value rest) else []) [] (left_after is_white_space text)

-- the text after those values
unfoldable pub after_values_up_to : ℕ → List ℕ → List ℕ
after_values_up_to zero text = text
after_values_up_to (suc count) text =
    by_front (λ byte rest. if byte == open_bracket then after_values_up_to count (after_raw_value rest) else text) text (left_after is_white_space text)

-- all values at the front
unfoldable pub values_in : List ℕ → List (List ℕ)
values_in text = values_up_to (length text) text

-- the property with this name and these raw values; there must be at least one value
abbrev pub property_from : List ℕ → List (List ℕ) → Property
property_from name [] = record { name = name; first = []; more = [] }
property_from name (first ∷ more) = record { name = name; first = first; more = more }

-- the name that an identifier spells
abbrev pub name_in : List ℕ → List ℕ
name_in identifier = filter is_upper identifier

-- up to `count` properties, each after white space
unfoldable pub properties_up_to : ℕ → List ℕ → List Property
properties_up_to zero text = []
properties_up_to (suc count) text =
    by_front
    (λ byte rest.
    let values = left_after is_letter (byte ∷ rest) in
    if is_upper byte
    then property_from (name_in (front is_letter (byte ∷ rest))) (values_in values) ∷ properties_up_to count (after_values_up_to (length rest) values)
    else [])
    []
    (left_after is_white_space text)

-- all properties at the front
unfoldable pub properties_in : List ℕ → List Property
properties_in text = properties_up_to (length text) text

-- no value follows
abbrev pub NoValueFollows : List ℕ → Type 0
NoValueFollows text = (byte : ℕ) (rest : List ℕ) → WhiteSpace text (byte ∷ rest) → byte ≢ open_bracket

-- no value and no property follows
abbrev pub NoPropertyFollows : List ℕ → Type 0
NoPropertyFollows text = (byte : ℕ) (rest : List ℕ) → WhiteSpace text (byte ∷ rest) → (byte ≢ open_bracket) × (is_upper byte ≡ false)

-- whole values stand at the front
pub record AreValuesIn (text : List ℕ) : Type 0 where
  pub values : List (List ℕ)
  pub rest : List ℕ
  pub spelled : ArePropValues values text rest
  pub ends : NoValueFollows rest

-- whole properties stand at the front, up to the end of a node
pub record ArePropertiesIn (text : List ℕ) : Type 0 where
  pub properties : List Property
  pub rest : List ℕ
  pub spelled : AreProperties properties text rest
  pub ends : NoPropertyFollows rest
