-- A machine that reads a text byte by byte, and keeps the games so far as trees. It connects the code and the grammar: the code
-- follows it, and the laws in proofs/ say that it ends with exactly the collection that the text spells.
use Rattle.std.specs.Prelude.{ℕ, ◌+◌, Bool, true, false, if◌then◌else◌, ◌==◌, List, [], ◌∷◌, ◌++◌, Option, Some, None, option_and_then, unwrap_or}
use Rattle.sgf_outline.specs.Tree.{Property, Node, Games, no_games, game, values}
pub use Rattle.sgf_outline.specs.Tree.{joined}
use Rattle.sgf_properties.specs.Bytes.{open_parenthesis, close_parenthesis, semicolon, open_bracket, backslash, close_bracket, byte_ef, byte_bb, byte_bf}
use Rattle.sgf_outline.specs.Spelling.{is_white_space, is_upper, is_lower}

-- a game whose `)` hasn't come yet: its nodes so far, and the games below them so far
pub record UnclosedGame : Type 0 where
  pub first : Node
  pub more : List Node
  pub below : Games

-- the whole games, and the unclosed ones, innermost first
pub record Stack : Type 0 where
  pub closed : Games
  pub unclosed : List UnclosedGame

-- a node whose end hasn't come yet: the games before it, whether it is
-- the first after a `(`, its place, and its properties so far
pub record Started : Type 0 where
  pub stack : Stack
  pub opens : Bool
  pub place : ℕ
  pub properties : List Property

pub data MachineState : Type 0 where
  start : MachineState
  first_of_mark : MachineState
  second_of_mark : MachineState
  opened : (stack : Stack) → MachineState
  in_node : (node : Started) → MachineState
  in_name : (node : Started) (name : List ℕ) → MachineState
  after_name : (node : Started) (name : List ℕ) → MachineState
  in_value : (node : Started) (name : List ℕ) (before : List (List ℕ)) (value : List ℕ) → MachineState
  after_escape : (node : Started) (name : List ℕ) (before : List (List ℕ)) (value : List ℕ) → MachineState
  after_value : (node : Started) (property : Property) → MachineState
  after_game : (stack : Stack) → MachineState

-- a property with the values given first and one more value
abbrev pub property_of : List ℕ → List (List ℕ) → List ℕ → Property
property_of name [] value = record { name = name; first = value; more = [] }
property_of name (first ∷ rest) value = record { name = name; first = first; more = rest ++ value ∷ [] }

-- the node with one more property
abbrev pub with_property : Started → Property → Started
with_property node property =
    record { stack = node.stack; opens = node.opens; place = node.place; properties = node.properties ++ property ∷ [] }

-- the node is added at the end of the innermost unclosed game
abbrev pub add_node : List UnclosedGame → Node → List UnclosedGame
add_node [] node = []
add_node (inmost ∷ outer) node = record { first = inmost.first; more = inmost.more ++ node ∷ []; below = inmost.below } ∷ outer

-- a game that begins with this node
abbrev pub new_game : Node → UnclosedGame
new_game node = record { first = node; more = []; below = no_games }

-- the node ends: it begins a game, or it is the next one of the innermost unclosed game
abbrev pub ended : Started → Stack
ended node =
    let whole_node : Node = record { place = node.place; properties = node.properties } in
    record {
      closed = node.stack.closed;
      unclosed = if node.opens then new_game whole_node ∷ node.stack.unclosed else add_node node.stack.unclosed whole_node;
    }

-- the unclosed game as a whole one
abbrev pub whole_game : UnclosedGame → Games
whole_game unclosed_game = game unclosed_game.first unclosed_game.more unclosed_game.below no_games

-- the innermost unclosed game becomes the last game below the unclosed game around it; if there is none, the last of the whole games
abbrev pub close_in : Games → List UnclosedGame → Option MachineState
close_in closed [] = None
close_in closed (inmost ∷ []) = Some (after_game (record { closed = joined closed (whole_game inmost); unclosed = [] }))
close_in closed (inmost ∷ around ∷ outer) =
    Some (after_game (record {
      closed = closed;
      unclosed = record { first = around.first; more = around.more; below = joined around.below (whole_game inmost) } ∷ outer;
    }))

-- a `)` ends the innermost unclosed game
abbrev pub close : Stack → Option MachineState
close stack = close_in stack.closed stack.unclosed

-- a node that begins at this offset
abbrev pub new_node : Stack → Bool → ℕ → MachineState
new_node stack opens at = in_node (record { stack = stack; opens = opens; place = at; properties = [] })

-- the state after a byte that comes where a node may end
abbrev pub after_node : ℕ → Stack → ℕ → Option MachineState
after_node at stack byte =
    if byte == semicolon then Some (new_node stack false at)
    else (if byte == open_parenthesis then Some (opened stack)
    else (if byte == close_parenthesis then close stack
    else None))

-- the state after a byte that comes after a game or before the first one: white space, a `(` or a `)`
abbrev pub between_games : Stack → ℕ → Option MachineState
between_games stack byte =
    if is_white_space byte then Some (after_game stack)
    else (if byte == open_parenthesis then Some (opened stack)
    else (if byte == close_parenthesis then close stack
    else None))

-- the state after the byte at an offset; None if the byte is refused
unfoldable pub next_state : ℕ → MachineState → ℕ → Option MachineState
next_state at start byte = if byte == byte_ef then Some first_of_mark else between_games (record { closed = no_games; unclosed = [] }) byte
next_state at first_of_mark byte = if byte == byte_bb then Some second_of_mark else None
next_state at second_of_mark byte = if byte == byte_bf then Some (after_game (record { closed = no_games; unclosed = [] })) else None
next_state at (opened stack) byte =
    if is_white_space byte then Some (opened stack)
    else (if byte == semicolon then Some (new_node stack true at)
    else None)
next_state at (in_node node) byte =
    if is_white_space byte then Some (in_node node)
    else (if is_upper byte then Some (in_name node (byte ∷ []))
    else after_node at (ended node) byte)
next_state at (in_name node name) byte =
    if is_upper byte then Some (in_name node (name ++ byte ∷ []))
    else (if is_lower byte then Some (in_name node name)
    else (if is_white_space byte then Some (after_name node name)
    else (if byte == open_bracket then Some (in_value node name [] [])
    else None)))
next_state at (after_name node name) byte =
    if is_white_space byte then Some (after_name node name)
    else (if byte == open_bracket then Some (in_value node name [] [])
    else None)
next_state at (in_value node name before value) byte =
    if byte == close_bracket then Some (after_value node (property_of name before value))
    else (if byte == backslash then Some (after_escape node name before value)
    else Some (in_value node name before (value ++ byte ∷ [])))
next_state at (after_escape node name before value) byte = Some (in_value node name before (value ++ backslash ∷ byte ∷ []))
next_state at (after_value node property) byte =
    if is_white_space byte then Some (after_value node property)
    else (if byte == open_bracket then Some (in_value node property.name (values property) [])
    else (if is_upper byte then Some (in_name (with_property node property) (byte ∷ []))
    else after_node at (ended (with_property node property)) byte))
next_state at (after_game stack) byte = between_games stack byte

-- the state after the bytes from an offset on; None if one of them is refused
unfoldable pub run : ℕ → MachineState → List ℕ → Option MachineState
run at state [] = Some state
run at state (byte ∷ rest) = option_and_then (λ next. run (at + 1) next rest) (next_state at state byte)

-- the whole games, if there is at least one and none is unclosed
abbrev pub whole_games : Games → List UnclosedGame → Option Games
whole_games no_games unclosed = None
whole_games (game first more below after) [] = Some (game first more below after)
whole_games (game first more below after) (inmost ∷ outer) = None

-- the collection of a text that ends in this state; None if it can't end there
unfoldable pub accepted : MachineState → Option Games
accepted (after_game stack) = whole_games stack.closed stack.unclosed
accepted _ = None

-- the collection that a text spells; None if it spells none
unfoldable pub collection_of : List ℕ → Option Games
collection_of text = option_and_then accepted (run 0 start text)

-- the collection that a text spells; no games if it spells none
abbrev pub games_in : List ℕ → Games
games_in text = unwrap_or (collection_of text) no_games
