-- How the own nodes of a game were read and kept, one by one: words of the contracts of `read_node`, and of the shortcut that stands in for it.
use Rattle.std.specs.Prelude.{◌≡◌, ℕ, ◌+◌, ◌<◌, ◌≤◌, false, List, [], ◌∷◌, length, slice_index}
use Rattle.std.specs.List.{flat_map}
use Rattle.sgf_properties.specs.Bytes.{semicolon}
use Rattle.sgf_properties.specs.Offsets.{IsSpan}
use Rattle.sgf_outline.specs.Tree.{Node, no_games}
use Rattle.sgf_outline.specs.Written.{node_text}
use Rattle.sgf_outline.specs.Spelling.{is_white_space}
use Rattle.sgf_outline.specs.Machine.{UnclosedGame, Stack, Started, opened, ended}
use Rattle.sgf_tree.specs.inner.Progress.{ComesTo, IsTrueFault}
use Rattle.sgf_tree.specs.inner.PropertiesRead.{StandsAfterNode}
use Rattle.sgf_outline.specs.Unclosed.{unclosed_count}
use Rattle.sgf_outline.specs.OwnNodes.{Coming, coming_of, AreOwnNodes, IsCopied}
use Rattle.sgf_outline.specs.declared.limit.TheConstants.{MAX_LENGTH}
use Rattle.sgf_tree.specs.declared.fault.ReadFault.{ReadFault}
use Rattle.sgf_tree.specs.declared.reader.own_nodes.NodesRead.{NodesRead}

-- nodes of a game were read up to `end`: the last one is `whole`, and `last` is the game so far
pub record NodesSoFar (text : List ℕ) (end : ℕ) (stack : Stack) (last : UnclosedGame) : Type 0 where
  pub whole : Started
  pub stands : StandsAfterNode text end whole
  pub stack_is : ended whole ≡ record { closed = stack.closed; unclosed = last ∷ stack.unclosed }
  pub nothing_below : last.below ≡ no_games
  pub not_white_space : end < length text → is_white_space (slice_index text end) ≡ false

-- these nodes, perhaps none, were read up to `end`, after the `(` just before `at`
abbrev pub AreReadTo : List ℕ → ℕ → Stack → ℕ → List Node → Type 0
AreReadTo text at stack end [] = IsSpan is_white_space text at end
AreReadTo text at stack end (first ∷ more) = NodesSoFar text end stack (record { first = first; more = more; below = no_games })

-- nodes of the game whose `(` is just before `at` were read, perhaps none yet, and the visitor keeps them
pub record AreOwnRead (keeps : Stack → Coming → Type 0) (text : List ℕ) (at : ℕ) (stack : Stack) (read : NodesRead) : Type 0 where
  pub after : ComesTo text at (opened stack)
  pub nodes : List Node
  pub to : AreReadTo text at stack read.end nodes
  pub are : AreOwnNodes read.own nodes
  pub copied : IsCopied (λ told. keeps stack (coming_of nodes told)) text read.own.first read.own.segment (flat_map node_text nodes)
  pub few : at + read.own.count ≤ read.own.segment.end
  pub ends : read.own.segment.end ≤ read.end
  pub within : read.end ≤ length text
  pub first : read.own.count ≡ 0 → read.own.first ≡ read.end

-- A node begins where the nodes before it end. The text isn't too long, and the games of the stack have fewer nodes than bytes.
pub record BeginsNode (keeps : Stack → Coming → Type 0) (text : List ℕ) (before : NodesRead) : Type 0 where
  pub short : length text ≤ MAX_LENGTH
  pub inside : before.end < length text
  pub begins : slice_index text before.end ≡ semicolon
  pub at : ℕ
  pub stack : Stack
  pub read : AreOwnRead keeps text at stack before
  pub few : unclosed_count stack.closed stack.unclosed < at

-- one node more was read, or several, and the visitor keeps these too
pub record AreNodesRead (kept keeps : Stack → Coming → Type 0) (text : List ℕ) (before after : NodesRead) : Type 0 where
  pub rises : before.end < after.end
  pub more : (at : ℕ) (stack : Stack) → AreOwnRead kept text at stack before → AreOwnRead keeps text at stack after

-- if these nodes were read before, the fault is the first one of the text
abbrev pub IsFaultInNodes : (Stack → Coming → Type 0) → List ℕ → NodesRead → ReadFault → Type 0
IsFaultInNodes kept text before fault = (at : ℕ) (stack : Stack) → AreOwnRead kept text at stack before → IsTrueFault text fault
