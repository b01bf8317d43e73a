-- The lines of play again, by the numbers of their nodes in file order.
use Rattle.std.specs.Prelude.{◌≡◌, ℕ, ◌+◌, ◌<◌, List, [], ◌∷◌, length, map, Some}
use Rattle.sgf_outline.specs.Tree.{Node, Games, no_games, game, node_count}
use Rattle.sgf_outline.specs.FileOrder.{node_at, IsLeaf}
use Rattle.tree_lines.specs.Lines.{Line, lines, last_number}

-- the nodes, each with its number as its place; the first has this number
abbrev pub numbered_nodes : ℕ → List Node → List Node
numbered_nodes number [] = []
numbered_nodes number (node ∷ nodes) = record node { place = number } ∷ numbered_nodes (number + 1) nodes

-- the games, each node with its number in file order as its place; the first node has this number
abbrev pub numbered : ℕ → Games → Games
numbered number no_games = no_games
numbered number (game first more below after) =
    let next = number + length more + 1 in
    game (record first { place = number }) (numbered_nodes (number + 1) more) (numbered next below) (numbered (next + node_count below) after)

-- a line by numbers: the number of its game, from 1, and the numbers of its nodes, from 0, the root first
pub record Path : Type 0 where
  pub game_number : ℕ
  pub numbers : List ℕ

-- the path of a line of numbered games
abbrev pub path_of : Line → Path
path_of line = record { game_number = line.game_number; numbers = map (λ n. n.place) line.nodes }

-- the paths of a collection's lines, in the same order
abbrev pub paths : Games → List Path
paths games = map path_of (lines (numbered 0 games))

-- the number of a path's last node, which is a leaf
abbrev pub leaf_of : Path → ℕ
leaf_of path = last_number path.numbers

-- the path ends in a leaf
pub record EndsInLeaf (games : Games) (path : Path) : Type 0 where
  pub within : leaf_of path < node_count games
  pub is_leaf : IsLeaf games (leaf_of path)

-- the path names the nodes of the line, in the same game
pub record IsPathOf (games : Games) (line : Line) (path : Path) : Type 0 where
  pub game_number : path.game_number ≡ line.game_number
  pub nodes : map (node_at games) path.numbers ≡ map Some line.nodes
