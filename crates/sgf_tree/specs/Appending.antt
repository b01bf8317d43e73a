-- A collection that stands further on in a text, for the law of one text after another.
use Rattle.std.specs.Prelude.{◌≡◌, ℕ, ◌+◌, List, [], ◌∷◌, map, take}
use Rattle.sgf_properties.specs.Bytes.{byte_ef, byte_bb, byte_bf}
use Rattle.sgf_outline.specs.Tree.{Node, Games, no_games, game}

-- the node, `by` bytes further on
abbrev pub raised_node : ℕ → Node → Node
raised_node by node = record { place = by + node.place; properties = node.properties }

-- the games, `by` bytes further on
abbrev pub raised : ℕ → Games → Games
raised by no_games = no_games
raised by (game first more below after) =
    game (raised_node by first) (map (raised_node by) more) (raised by below) (raised by after)

-- the text begins with the UTF-8 byte order mark
abbrev pub BeginsWithByteOrderMark : List ℕ → Type 0
BeginsWithByteOrderMark text = take 3 text ≡ byte_ef ∷ byte_bb ∷ byte_bf ∷ []
