-- What a node holds for the referee (SGF FF[4], move and setup properties): moves, stones and players, each list in file order.
use Rattle.std.specs.Prelude.{ℕ, Bool, if◌then◌else◌, Option, option_map, List, [], map, find, codes, bytes_eq}
use Rattle.std.specs.List.{flat_map}
use Rattle.sgf_outline.specs.Tree.{Property, Node, values}
use Rattle.board_stones.specs.declared.stones.Colour.{Colour}
use Rattle.board_stones.specs.declared.stones.Colour.TheVariants.{Black, White}
use Rattle.board_stones.specs.declared.stones.Cell.{Cell}
use Rattle.board_stones.specs.declared.stones.Cell.TheVariants.{Black as BlackStone, White as WhiteStone, Empty}

-- the property has this name
abbrev pub is_named : List ℕ → Property → Bool
is_named name property = bytes_eq property.name name

-- a move: the player, and the raw value that names the point or the pass
pub record Move : Type 0 where
  pub player : Colour
  pub raw : List ℕ

-- the values of a property as a player's moves
abbrev pub moves_by : Colour → Property → List Move
moves_by colour property = map (λ raw. record { player = colour; raw = raw }) (values property)

-- the moves of a property: B has Black's, W has White's
abbrev pub moves_in : Property → List Move
moves_in property =
    if is_named (codes "B") property then moves_by Black property
    else (if is_named (codes "W") property then moves_by White property else [])

-- the moves of a node: all values of B and W
abbrev pub moves : Node → List Move
moves node = flat_map moves_in node.properties

-- stones of a setup, from a value of AB, AW or AE: what the points become, and the raw value that names the points
pub record Stones : Type 0 where
  pub cell : Cell
  pub raw : List ℕ

-- the values of a property as stones of this kind
abbrev pub stones_of : Cell → Property → List Stones
stones_of cell property = map (λ raw. record { cell = cell; raw = raw }) (values property)

-- the stones of a property: AB adds black ones, AW adds white ones, AE makes points empty
abbrev pub stones_in : Property → List Stones
stones_in property =
    if is_named (codes "AB") property then stones_of BlackStone property
    else (if is_named (codes "AW") property then stones_of WhiteStone property
    else (if is_named (codes "AE") property then stones_of Empty property else []))

-- the stones of a node: all values of AB, AW and AE
abbrev pub stones : Node → List Stones
stones node = flat_map stones_in node.properties

-- the players that a property sets up: the values of PL
abbrev pub players_in : Property → List (List ℕ)
players_in property = if is_named (codes "PL") property then values property else []

-- the players of a node: all values of PL
abbrev pub players : Node → List (List ℕ)
players node = flat_map players_in node.properties

-- the first value of the first property with this name; None if there is none
abbrev pub first_value : List ℕ → List Property → Option (List ℕ)
first_value name properties = option_map (λ property. property.first) (find (is_named name) properties)
