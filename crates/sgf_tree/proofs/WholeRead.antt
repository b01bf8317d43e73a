-- How all games of a text are read, and what holds then.
use Rattle.sgf_tree.proofs.Common.{◌≡◌, ℕ, ◌+◌, ◌-◌, ◌<◌, ◌≤◌, ◌⊎◌, inl, inr, List, [], ◌∷◌, length, get_or, Some, None, unwrap_or, sym, ap, subst, ◌∙◌, arith, rules, common_steps, nil_from_length, IsSpan, UnclosedGame, Stack, MachineState, after_game, close, accepted, collection_of, Coming, nothing, is_white_space, Games, no_games, game, game_count, node_count, unclosed_count, IsFaultyAt, StandsBetween, IsGameRead, ReadsWhole, ComesTo, closed-in, unclosed_count-closed}
use Rattle.sgf_tree.proofs.AcceptedSpelled.{accepted-spelled}
use Rattle.sgf_tree.proofs.GamesLoop.{none-accepted, close-faulty, close-stands, games-unfinished, games-whole, games-accepted, depth-closed}
use Rattle.sgf_tree.proofs.Run.{collection-run}
use Rattle.sgf_tree.proofs.SequencesRead.{unclosed-unaccepted}
use Rattle.sgf_tree.proofs.ValueEnds.{reaches-all}

some-game : (games : Games) → 0 < node_count games → 0 < game_count games
some-game no_games some = some
some-game (game first more below after) some = omega arith

module _ (t : List ℕ) where
  collection-reached : (c : Games) (z : MachineState) → ComesTo t (length t) z → accepted z ≡ Some c → collection_of t ≡ Some c
  collection-reached c z reached accepts = collection-run t z (reaches-all t z reached) ∙ accepts

  -- games were read from `start` up to `at`, and the visitor keeps them; so many are unclosed
  pub record GamesSoFar (keeps : Stack → Coming → Type 0) (start at depth : ℕ) : Type 0 where
    pub rises : start ≤ at
    pub within : at ≤ length t
    pub stack : Stack
    pub stands : StandsBetween t at stack
    pub kept : keeps stack nothing
    pub few : unclosed_count stack.closed stack.unclosed ≤ at
    pub none : at ≡ start → game_count stack.closed ≡ 0
    pub some : start < at → 0 < unclosed_count stack.closed stack.unclosed
    pub depth_is : length stack.unclosed ≡ depth

  -- the own nodes of a game
  pub games-opened : (keeps keeps' : Stack → Coming → Type 0) (start at depth end : ℕ) (so_far : GamesSoFar keeps start at depth)
      → at < end → end ≤ length t → IsGameRead keeps' t end so_far.stack → GamesSoFar keeps' start end (depth + 1)
  games-opened keeps keeps' start at depth end so_far rises within read = grind (arith, common_steps)

  -- a `)`
  module _ (keeps : Stack → Coming → Type 0) (start at depth : ℕ) (so_far : GamesSoFar keeps start at depth) where
    pub unopened-faulty : at < length t → get_or t at 0 ≡ 41 → depth ≡ 0 → IsFaultyAt t at
    unopened-faulty lt e none = close-faulty t at so_far.stack so_far.stands lt e (nil_from_length so_far.stack.unclosed (so_far.depth_is ∙ none))

    pub games-closed : (keeps' : Stack → Coming → Type 0) (next : ℕ) → 0 < depth → at < length t → get_or t at 0 ≡ 41 → IsSpan is_white_space t (at + 1) next
        → ((k k' : Stack) → keeps k nothing → length k.unclosed ≡ depth - 1 + 1 → close k ≡ Some (after_game k') → keeps' k' nothing) → GamesSoFar keeps' start next (depth - 1)
    games-closed keeps' next some lt e white ends = grind (arith, common_steps, unclosed_count-closed, close-stands, closed-in, depth-closed)

    -- the end of the text
    module _ (ends : at ≡ length t) where
      pub games-faulty-end : (0 < depth) ⊎ (at ≡ start) → IsFaultyAt t at
      games-faulty-end h =
          subst (IsFaultyAt t) (sym ends) (games-unfinished t at so_far.stack so_far.stands ends (unaccepted so_far.stack.closed so_far.stack.unclosed so_far.none so_far.depth_is h))
        where
          unaccepted : (closed : Games) (gs : List UnclosedGame) → (at ≡ start → game_count closed ≡ 0) → length gs ≡ depth → (0 < depth) ⊎ (at ≡ start)
              → accepted (after_game (record { closed = closed; unclosed = gs })) ≡ None
          unaccepted closed (g ∷ gs) none depth_is h = unclosed-unaccepted closed g gs
          unaccepted closed [] none depth_is h = grind (arith, common_steps, none-accepted)

      pub games-read : depth ≡ 0 → start < at → ReadsWhole keeps t
      games-read none some =
          let k : Stack = so_far.stack in
          let all : k.unclosed ≡ [] = nil_from_length k.unclosed (so_far.depth_is ∙ none) in
          let count : unclosed_count k.closed k.unclosed ≡ node_count k.closed = ap (unclosed_count k.closed) all in
          search (rules, collection-reached, games-whole, unwrap_or, accepted-spelled, games-accepted t at k so_far.stands ends all (some-game k.closed (omega (arith, so_far.some some))))
