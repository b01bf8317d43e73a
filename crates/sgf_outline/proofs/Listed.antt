-- The listing of sequences: games side by side, one more unclosed game, and a game that ends.
use Rattle.sgf_outline.proofs.Common.{◌≡◌, ℕ, ◌+◌, ◌≤◌, List, [], ◌∷◌, ◌++◌, length, Option, Some, None, refl, arith, append_assoc, append-nil, length-append, rules, common_steps, Listed, listed, unclosed_list, UnclosedGame, whole_game, Games, no_games, game, joined, game_count, node_count, unclosed_count}
use Rattle.sgf_outline.proofs.GameEnds.{add_games}
use Rattle.sgf_outline.proofs.ListedNodes.{length-listed, starts-rise}
use Rattle.sgf_outline.proofs.Rises.{rises-count}
use Rattle.sgf_outline.proofs.Starts.{starts_from}

-- the sequences of games, and then of further ones
pub listed-joined : (index number : ℕ) (outer : Option ℕ) (ordinal : ℕ) (a b : Games)
    → listed index number outer ordinal (joined a b)
    ≡ listed index number outer ordinal a ++ listed (index + length (listed index number outer ordinal a)) (number + node_count a) outer (ordinal + game_count a) b
listed-joined index number outer ordinal no_games b = grind (arith, common_steps)
listed-joined index number outer ordinal (game first more below after) b =
    let next : ℕ = number + 1 + length more in
    let inner : List Listed = listed (index + 1) next (Some index) 1 below in
    grind (arith, common_steps, length-append, append_assoc, (listed-joined (index + 1 + length inner) (next + node_count below) outer (ordinal + 1) after b))

-- there are no more sequences than nodes
listed-least : (index number : ℕ) (outer : Option ℕ) (ordinal : ℕ) (a : Games) → length (listed index number outer ordinal a) ≤ node_count a
listed-least index number outer ordinal a =
    omega (arith, length-listed index number outer ordinal a, rises-count number (number + node_count a) (starts_from number a) (starts-rise number a))

module _ (closed : Games) where
  -- the sequences of some unclosed games, in their order
  abbrev pub before : List UnclosedGame → List Listed
  before gs = (unclosed_list closed gs).sequences

  -- what an unclosed game adds
  abbrev pub own : UnclosedGame → List UnclosedGame → List Listed
  own g gs =
      record { first = g.first; more = g.more; number = (unclosed_list closed gs).nodes; outer = (unclosed_list closed gs).innermost; ordinal = (unclosed_list closed gs).next_ordinal }
      ∷ listed (length (before gs) + 1) ((unclosed_list closed gs).nodes + 1 + length g.more) (Some (length (before gs))) 1 g.below

  pub unclosed_list-least : (gs : List UnclosedGame) → length (unclosed_list closed gs).sequences ≤ unclosed_count closed gs
  unclosed_list-least [] = listed-least 0 0 None 1 closed
  unclosed_list-least (g ∷ gs) = search (rules, length-append, listed-least, (unclosed_list-least gs))

  pub unclosed_list-nodes : (gs : List UnclosedGame) → (unclosed_list closed gs).nodes ≡ unclosed_count closed gs
  unclosed_list-nodes [] = refl
  unclosed_list-nodes (g ∷ gs) = omega (arith, unclosed_list-nodes gs)

  -- a game that ends is listed as the unclosed game was, and the game around it is innermost then
  module _ (g : UnclosedGame) where
    -- the game alone
    alone : (index number : ℕ) (outer : Option ℕ) (ordinal : ℕ)
        → listed index number outer ordinal (whole_game g)
        ≡ record { first = g.first; more = g.more; number = number; outer = outer; ordinal = ordinal } ∷ listed (index + 1) (number + 1 + length g.more) (Some index) 1 g.below
    alone index number outer ordinal = grind (arith, common_steps, append-nil)

    pub list-closed : (gs : List UnclosedGame) → (unclosed_list (add_games closed gs (whole_game g)).closed (add_games closed gs (whole_game g)).unclosed).sequences ≡ (unclosed_list closed (g ∷ gs)).sequences
    list-closed gs = search (rules, listed-joined, alone, length-append, append_assoc)

    pub innermost-closed : (gs : List UnclosedGame) → (unclosed_list (add_games closed gs (whole_game g)).closed (add_games closed gs (whole_game g)).unclosed).innermost ≡ (unclosed_list closed gs).innermost
    innermost-closed gs = search rules
