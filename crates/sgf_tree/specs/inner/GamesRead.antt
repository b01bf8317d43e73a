-- How the nodes and games of a text were read: words of the contracts in `reader::games` and of what a visitor keeps.
use Rattle.std.specs.Prelude.{◌≡◌, ℕ, ◌+◌, ◌<◌, ◌≤◌, true, false, List, [], ◌∷◌, ◌++◌, length, slice_index, Option, Some, None}
use Rattle.sgf_outline.specs.Tree.{Games, no_games, game, node_count}
use Rattle.sgf_outline.specs.Spelling.{Spells, is_white_space}
use Rattle.sgf_outline.specs.FileOrder.{OrderedNode, further_nodes, nodes_from}
use Rattle.sgf_outline.specs.Machine.{UnclosedGame, Stack, MachineState, opened, after_game, between_games, next_state, accepted, games_in}
use Rattle.sgf_outline.specs.Unclosed.{whole, unclosed_count}
use Rattle.sgf_outline.specs.OwnNodes.{Coming, nothing, with_game}
use Rattle.sgf_tree.specs.inner.Progress.{ComesTo, IsTrueFault}
use Rattle.sgf_tree.specs.declared.fault.ReadFault.{ReadFault}

-- the number of the last own node of the innermost unclosed game
abbrev pub tip : Games → List UnclosedGame → Option ℕ
tip closed [] = None
tip closed (inmost ∷ outer) = Some (unclosed_count closed outer + length inmost.more)

-- the ordered nodes of an unclosed game
abbrev pub own_nodes : ℕ → Option ℕ → UnclosedGame → List OrderedNode
own_nodes number parent unclosed_game =
    let last = number + length unclosed_game.more in
    record { node = unclosed_game.first; parent = parent; opens = true } ∷ further_nodes number unclosed_game.more ++ nodes_from (last + 1) (Some last) unclosed_game.below

-- the ordered nodes of the closed and the unclosed games
abbrev pub unclosed_nodes : Games → List UnclosedGame → List OrderedNode
unclosed_nodes closed [] = nodes_from 0 None closed
unclosed_nodes closed (inmost ∷ outer) = unclosed_nodes closed outer ++ own_nodes (unclosed_count closed outer) (tip closed outer) inmost

-- for each sequence in file order, the last of its nodes and those below them; the first node has the number `number`
abbrev pub lasts : ℕ → Games → List ℕ
lasts number no_games = []
lasts number (game first more below after) =
    let next = number + 1 + length more in
    (number + length more + node_count below) ∷ lasts next below ++ lasts (next + node_count below) after

-- the same for the closed and the unclosed games, but that of an unclosed game has 0
abbrev pub unclosed_lasts : Games → List UnclosedGame → List ℕ
unclosed_lasts closed [] = lasts 0 closed
unclosed_lasts closed (inmost ∷ outer) =
    unclosed_lasts closed outer ++ 0 ∷ lasts (unclosed_count closed outer + 1 + length inmost.more) inmost.below

-- the machine has the games of the stack, and a `(`, a `)` or the end of the text may come next
pub record StandsBetween (text : List ℕ) (at : ℕ) (stack : Stack) : Type 0 where
  pub state : MachineState
  pub reached : ComesTo text at state
  pub next : at < length text → next_state at state (slice_index text at) ≡ between_games stack (slice_index text at)
  pub end : accepted state ≡ accepted (after_game stack)
  pub not_white_space : at < length text → is_white_space (slice_index text at) ≡ false

-- the part before the first game was read: a byte order mark, or nothing
pub record IsByteOrderMarkRead (text : List ℕ) (at : ℕ) : Type 0 where
  pub within : at ≤ length text
  pub state : MachineState
  pub reached : ComesTo text at state
  pub next : at < length text → next_state at state (slice_index text at) ≡ between_games (whole no_games) (slice_index text at)
  pub end : accepted state ≡ accepted (after_game (whole no_games))

-- after a `(` at this stack, the own nodes of a game were read up to `end`, and the visitor keeps the game
pub record IsGameRead (keeps : Stack → Coming → Type 0) (text : List ℕ) (end : ℕ) (stack : Stack) : Type 0 where
  pub read : UnclosedGame
  pub nothing_below : read.below ≡ no_games
  pub stands : StandsBetween text end (with_game stack read)
  pub kept : keeps (with_game stack read) nothing
  pub few : unclosed_count stack.closed (read ∷ stack.unclosed) ≤ end

-- if the machine has the games of a stack, which the visitor keeps, and `at` is just after a `(`, the own nodes of this new game were read
abbrev pub ReadsOwnNodes : (Stack → Coming → Type 0) → (Stack → Coming → Type 0) → List ℕ → ℕ → ℕ → Type 0
ReadsOwnNodes kept keeps text at end =
    (stack : Stack) → ComesTo text at (opened stack) → kept stack nothing → unclosed_count stack.closed stack.unclosed < at → IsGameRead keeps text end stack

-- if `at` is just after a `(`, the fault is the first one of the text
abbrev pub IsFaultInOpened : (Stack → Coming → Type 0) → List ℕ → ℕ → ReadFault → Type 0
IsFaultInOpened kept text at fault = (stack : Stack) → ComesTo text at (opened stack) → kept stack nothing → IsTrueFault text fault

-- the text spells a collection, which the visitor keeps
pub record ReadsWhole (keeps : Stack → Coming → Type 0) (text : List ℕ) : Type 0 where
  pub spelled : Spells (games_in text) text
  pub kept : keeps (whole (games_in text)) nothing
  pub few : node_count (games_in text) ≤ length text
