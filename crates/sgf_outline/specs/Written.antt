-- What the sgf form writes for a node: no white space between its parts, names in upper case, raw values as they are in the text.
use Rattle.std.specs.Prelude.{ℕ, ◌+◌, List, [], ◌∷◌, ◌++◌, length, codes}
use Rattle.std.specs.List.{flat_map}
use Rattle.sgf_outline.specs.Tree.{Node}
pub use Rattle.sgf_properties.specs.Written.{value_text, property_text}

-- a node's `;` and its properties
abbrev pub node_text : Node → List ℕ
node_text n = codes ";" ++ flat_map property_text n.properties

-- the offsets where texts end, if the first begins at the offset `start` and each of the others where the one before it ends
abbrev pub ends_from : ℕ → List (List ℕ) → List ℕ
ends_from start [] = []
ends_from start (text ∷ texts) = (start + length text) ∷ ends_from (start + length text) texts
