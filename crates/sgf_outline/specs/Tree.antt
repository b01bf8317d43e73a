-- What a Smart Game Format text holds: a collection of game trees (SGF FF[4], EBNF).
use Rattle.std.specs.Prelude.{ℕ, ◌+◌, Option, List, [], ◌∷◌, length, option_map, option_to_list}
use Rattle.std.specs.Borrow.{Bor}
pub use Rattle.sgf_properties.specs.Property.{Property, values}

-- the property with a name of one letter and with one raw value
abbrev pub lone_property : ℕ → List ℕ → Property
lone_property letter value = record { name = letter ∷ []; first = value; more = [] }

-- the property that was told by its letter and its raw value, or none
abbrev pub told_property : Option (ℕ × Bor (List ℕ)) → List Property
told_property told = option_to_list (option_map (λ lone. lone_property lone.0 lone.1.now) told)

-- a node: its place (the offset of its `;` in the text, in bytes from 0), and its properties
pub record Node : Type 0 where
  pub place : ℕ
  pub properties : List Property

-- Games that stand side by side. A game (a GameTree of SGF, at any depth) has a first node, more nodes after it, and the games
-- below these nodes, each of which begins a variation. `after` has the games after this game. A node that no node follows is a
-- leaf. Only the games of the collection itself are counted and numbered, not those below others.
pub data Games : Type 0 where
  no_games : Games
  game : (first : Node) (more : List Node) (below after : Games) → Games

-- how many games stand side by side
abbrev pub game_count : Games → ℕ
game_count no_games = 0
game_count (game first more below after) = 1 + game_count after

-- how many nodes they have, at every depth
abbrev pub node_count : Games → ℕ
node_count no_games = 0
node_count (game first more below after) =
    1 + length more + node_count below + node_count after

-- how many leaves they have, at every depth: if no game is below a game, its last own node is one
abbrev pub leaf_count : Games → ℕ
leaf_count no_games = 0
leaf_count (game first more no_games after) = 1 + leaf_count after
leaf_count (game first more (game first' more' below' after') after) =
    leaf_count (game first' more' below' after') + leaf_count after

-- the games, and then further games
abbrev pub joined : Games → Games → Games
joined no_games others = others
joined (game first more below after) others = game first more below (joined after others)
