-- The nodes of a collection in file order, numbered from 0.
use Rattle.std.specs.Prelude.{◌≡◌, ◌≢◌, ℕ, ◌+◌, ◌-◌, ◌<◌, ◌≤◌, Bool, true, false, if◌then◌else◌, nat_lt, List, [], ◌∷◌, ◌++◌, length, get_or, slice_get, Option, Some, None, option_map, option_to_list}
use Rattle.std.specs.List.{flat_map, range_with_len}
use Rattle.sgf_outline.specs.Tree.{Node, Games, no_games, game, node_count}

-- A node, the number of its parent, and whether the node is the first after a `(`. The parent is
-- the node before it on its line; None for the root of a game of the collection.
pub record OrderedNode : Type 0 where
  pub node : Node
  pub parent : Option ℕ
  pub opens : Bool

-- the further nodes of a game; `last` is the number of the node before them
abbrev pub further_nodes : ℕ → List Node → List OrderedNode
further_nodes last [] = []
further_nodes last (node ∷ rest) = record { node = node; parent = Some last; opens = false } ∷ further_nodes (last + 1) rest

-- The nodes of some games. The first node has the number `number`, and its parent is `parent`. The list begins with the first
-- game's own nodes (`first` and `more`). Then come the nodes of the games below these, and then those of the games after it.
abbrev pub nodes_from : ℕ → Option ℕ → Games → List OrderedNode
nodes_from number parent no_games = []
nodes_from number parent (game first more below after) =
    let last = number + length more in
    record { node = first; parent = parent; opens = true } ∷ further_nodes number more
    ++ nodes_from (last + 1) (Some last) below
    ++ nodes_from (last + 1 + node_count below) parent after

-- the nodes of a collection in file order
abbrev pub ordered_nodes : Games → List OrderedNode
ordered_nodes games = nodes_from 0 None games

-- the node with this number; None if there is none
abbrev pub node_at : Games → ℕ → Option Node
node_at games number = option_map (λ ordered. ordered.node) (slice_get (ordered_nodes games) number)

-- the nodes with these numbers
abbrev pub nodes_at : Games → List ℕ → List Node
nodes_at games numbers = flat_map (λ number. option_to_list (node_at games number)) numbers

-- the place of the node with this number
abbrev pub place_at : Games → ℕ → Option ℕ
place_at games number = option_map (λ ordered. ordered.node.place) (slice_get (ordered_nodes games) number)

-- the parent of the node with this number: Some None for the root of a game, None if there is no such node
abbrev pub parent_at : Games → ℕ → Option (Option ℕ)
parent_at games number = option_map (λ ordered. ordered.parent) (slice_get (ordered_nodes games) number)

-- no node follows this node on a line
abbrev pub IsLeaf : Games → ℕ → Type 0
IsLeaf games number = (other : ℕ) → parent_at games other ≢ Some (Some number)

-- the number, from 1, of the game that has this node
abbrev pub game_of : Games → ℕ → ℕ
game_of no_games number = 0
game_of (game first more below after) number =
    let size = 1 + length more + node_count below in
    if nat_lt number size then 1 else 1 + game_of after (number - size)

-- the other number belongs to the node `number`, or to a node below it
pub data IsAtOrBelow (games : Games) (number : ℕ) : ℕ → Type 0 where
  itself : IsAtOrBelow games number number
  below : {parent child : ℕ} → parent_at games child ≡ Some (Some parent) → IsAtOrBelow games number parent → IsAtOrBelow games number child

-- the greatest number among the node `number` and the nodes below it
pub record IsLastBelow (games : Games) (number last : ℕ) : Type 0 where
  pub under : IsAtOrBelow games number last
  pub greatest : (other : ℕ) → IsAtOrBelow games number other → other ≤ last

-- the places rise strictly in file order
abbrev pub PlacesRise : Games → Type 0
PlacesRise games = (first second p q : ℕ) → first < second → place_at games first ≡ Some p → place_at games second ≡ Some q → p < q

-- the numbers of the nodes that are the first after a `(`; the first node of the list has the number `number`
abbrev pub opening_numbers : ℕ → List OrderedNode → List ℕ
opening_numbers number [] = []
opening_numbers number (ordered ∷ rest) =
    if ordered.opens then number ∷ opening_numbers (number + 1) rest else opening_numbers (number + 1) rest

-- A sequence has the nodes between a `(` and the next parenthesis (SGF FF[4], EBNF). Sequences are numbered from 0 in file order. These are
-- the numbers of their first nodes.
abbrev pub sequence_starts : Games → List ℕ
sequence_starts games = opening_numbers 0 (ordered_nodes games)

-- the number of a sequence's first node, and the number after that of its last node
abbrev pub sequence_start : Games → ℕ → ℕ
sequence_start games sequence = get_or (sequence_starts games) sequence 0

abbrev pub sequence_end : Games → ℕ → ℕ
sequence_end games sequence = get_or (sequence_starts games) (sequence + 1) (node_count games)

-- the numbers of a sequence's nodes
abbrev pub sequence_numbers : Games → ℕ → List ℕ
sequence_numbers games sequence =
    range_with_len (sequence_start games sequence) (sequence_end games sequence - sequence_start games sequence)
