-- The sequences of a collection, as they are listed in file order.
use Rattle.std.specs.Prelude.{ℕ, ◌+◌, List, [], ◌∷◌, ◌++◌, length, Option, Some, None}
use Rattle.sgf_outline.specs.Tree.{Node, Games, no_games, game, game_count, node_count}
use Rattle.sgf_outline.specs.Machine.{UnclosedGame}

-- A sequence: its nodes, the number of the first of them, and the number of the sequence that it goes on from, which ends with the parent
-- of its first node; None if it begins a game of the collection. `ordinal` is the number, from 1, of its game among those that stand side by side.
pub record Listed : Type 0 where
  pub first : Node
  pub more : List Node
  pub number : ℕ
  pub outer : Option ℕ
  pub ordinal : ℕ

-- The sequences of games that stand side by side. `index` is the number of the first of these sequences, `number` that of their first
-- node, and `ordinal` that of the first game.
abbrev pub listed : (index number : ℕ) → (outer : Option ℕ) → (ordinal : ℕ) → Games → List Listed
listed index number outer ordinal no_games = []
listed index number outer ordinal (game first more below after) =
    let next = number + 1 + length more in
    let inner = listed (index + 1) next (Some index) 1 below in
    record { first = first; more = more; number = number; outer = outer; ordinal = ordinal } ∷ inner
    ++ listed (index + 1 + length inner) (next + node_count below) outer (ordinal + 1) after

-- the sequences of a collection
abbrev pub sequences_of : Games → List Listed
sequences_of games = listed 0 0 None 1 games

-- The sequences of closed and unclosed games, how many nodes they have, the number of the innermost unclosed game's own sequence, and the
-- ordinal of a game that begins next.
pub record UnclosedList : Type 0 where
  pub sequences : List Listed
  pub nodes : ℕ
  pub innermost : Option ℕ
  pub next_ordinal : ℕ

-- one more game is unclosed
abbrev pub with_unclosed : UnclosedList → UnclosedGame → UnclosedList
with_unclosed outer inmost =
    let index = length outer.sequences in
    let next = outer.nodes + 1 + length inmost.more in
    record {
      sequences =
          outer.sequences ++ record { first = inmost.first; more = inmost.more; number = outer.nodes; outer = outer.innermost; ordinal = outer.next_ordinal }
          ∷ listed (index + 1) next (Some index) 1 inmost.below;
      nodes = next + node_count inmost.below;
      innermost = Some index;
      next_ordinal = 1 + game_count inmost.below;
    }

abbrev pub unclosed_list : Games → List UnclosedGame → UnclosedList
unclosed_list closed [] = record { sequences = sequences_of closed; nodes = node_count closed; innermost = None; next_ordinal = 1 + game_count closed }
unclosed_list closed (inmost ∷ outer) = with_unclosed (unclosed_list closed outer) inmost
