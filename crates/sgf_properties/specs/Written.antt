-- What the sgf form writes for a property: no white space between its parts, its name in upper case, raw values as they are in the text.
use Rattle.std.specs.Prelude.{◌≡◌, ℕ, List, ◌++◌, codes}
use Rattle.std.specs.List.{flat_map}
use Rattle.sgf_properties.specs.Property.{Property, values}

-- a raw value between its brackets
abbrev pub value_text : List ℕ → List ℕ
value_text value = codes "[" ++ value ++ codes "]"

-- a property's name and its values
abbrev pub property_text : Property → List ℕ
property_text p = p.name ++ flat_map value_text (values p)

-- the new list is the old one, perhaps with elements appended
abbrev pub GoesOn : List ℕ → List ℕ → Type 0
GoesOn old new = (more : List ℕ) × (new ≡ old ++ more)
