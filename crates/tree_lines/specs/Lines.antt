-- The lines of play of a collection (SGF FF[4]). A line goes from the root of a game to a leaf, a node that no node follows. If
-- games stand below a node, the tree branches there. Each of them begins a variation, and lines go on through each in turn.
use Rattle.std.specs.Prelude.{◌≢◌, ℕ, ◌+◌, List, [], ◌∷◌, ◌++◌, map, All}
use Rattle.sgf_outline.specs.Tree.{Node, Games, no_games, game}

-- `own` followed by each of the lists in turn; `own` alone if there are no lists. These are the lines through a branch, or to
-- a leaf.
abbrev pub through : {A : Type 0} → List A → List (List A) → List (List A)
through own [] = own ∷ []
through own (first ∷ others) = map (λ rest. own ++ rest) (first ∷ others)

-- the variations through games: for each game in turn, those through its own nodes to the games below them
abbrev pub node_lines : Games → List (List Node)
node_lines no_games = []
node_lines (game first more below after) = through (first ∷ more) (node_lines below) ++ node_lines after

-- a line of play: the number of its game, from 1, and its nodes, the root first
pub record Line : Type 0 where
  pub game_number : ℕ
  pub nodes : List Node

-- the lines of the game with this number, by their nodes
abbrev pub lines_of_game : ℕ → List (List Node) → List Line
lines_of_game number variations = map (λ nodes. record { game_number = number; nodes = nodes }) variations

-- the lines of games; the first game has this number
abbrev pub lines_from : ℕ → Games → List Line
lines_from number no_games = []
lines_from number (game first more below after) =
    lines_of_game number (through (first ∷ more) (node_lines below)) ++ lines_from (number + 1) after

-- the lines of a collection: those of an earlier game first, and in a game those of an earlier variation first
abbrev pub lines : Games → List Line
lines games = lines_from 1 games

-- the last of some numbers; 0 if there are none
abbrev pub last_number : List ℕ → ℕ
last_number [] = 0
last_number (n ∷ []) = n
last_number (n ∷ m ∷ ms) = last_number (m ∷ ms)

-- the place of a line: the place of its last node
abbrev pub place_of : Line → ℕ
place_of line = last_number (map (λ n. n.place) line.nodes)

-- no line of the collection has this place
abbrev pub HasNoLineAt : Games → ℕ → Type 0
HasNoLineAt games place = All (λ line. place_of line ≢ place) (lines games)
