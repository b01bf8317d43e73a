-- The node that stands at an offset of a text.
use Rattle.std.specs.Prelude.{◌≡◌, ℕ, List, ◌∷◌, drop}
use Rattle.sgf_properties.specs.Bytes.{semicolon}
use Rattle.sgf_outline.specs.Tree.{Node}
use Rattle.sgf_properties.specs.Front.{properties_in, ArePropertiesIn}

-- the node whose `;` is at `place`
abbrev pub node_in : List ℕ → (place : ℕ) → Node
node_in text place = record { place = place; properties = properties_in (drop 1 (drop place text)) }

-- a `;` and the properties of a node
pub record IsNodeIn (text : List ℕ) : Type 0 where
  pub begins : text ≡ semicolon ∷ drop 1 text
  pub properties : ArePropertiesIn (drop 1 text)
