-- How the games, nodes and leaves of a text were counted: words of the contracts in `reader::counting`.
use Rattle.std.specs.Prelude.{◌≡◌, ℕ, ◌+◌, Bool, true, false, List, [], ◌∷◌}
use Rattle.sgf_outline.specs.Tree.{Games, no_games, game, game_count, leaf_count}
use Rattle.sgf_outline.specs.Machine.{UnclosedGame, Stack}
use Rattle.sgf_outline.specs.Unclosed.{unclosed_count}
use Rattle.sgf_tree.specs.declared.reader.counting.Tally.{Tally}

-- how many leaves the closed games have, and the games below the unclosed ones
abbrev pub unclosed_leaves : Games → List UnclosedGame → ℕ
unclosed_leaves closed [] = leaf_count closed
unclosed_leaves closed (inmost ∷ outer) = unclosed_leaves closed outer + leaf_count inmost.below

-- whether there are no games
abbrev pub are_none : Games → Bool
are_none no_games = true
are_none (game first more below after) = false

-- whether a game is unclosed and no game is below the innermost unclosed one
abbrev pub is_bare : List UnclosedGame → Bool
is_bare [] = false
is_bare (inmost ∷ outer) = are_none inmost.below

-- the tally counts the games of the stack
pub record IsTallyOf (stack : Stack) (tally : Tally) : Type 0 where
  pub games_counted : tally.extent.games ≡ game_count stack.closed
  pub nodes_counted : tally.extent.nodes ≡ unclosed_count stack.closed stack.unclosed
  pub leaves_counted : tally.extent.leaves ≡ unclosed_leaves stack.closed stack.unclosed
  pub bare : tally.is_bare ≡ is_bare stack.unclosed
