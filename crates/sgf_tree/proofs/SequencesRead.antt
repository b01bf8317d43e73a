-- How the machine goes over the own nodes of a game.
use Rattle.sgf_tree.proofs.Common.{◌≡◌, ◌≢◌, ℕ, ◌+◌, ◌<◌, true, false, List, [], ◌∷◌, ◌++◌, length, get_or, None, refl, arith, ne_eqb, rules, flat_map, common_steps, IsSpan, UnclosedGame, Stack, Started, opened, in_node, after_game, after_node, between_games, ended, new_game, new_node, next_state, accepted, is_white_space, Property, Node, Games, no_games, game, property_text, IsFaultyAt, StandsBetween, NodesSoFar, ComesTo, StandsAfterNode, ArePropertiesRead}
use Rattle.sgf_tree.proofs.Run.{run-take-step}
use Rattle.sgf_tree.proofs.Spans.{run-white}
use Rattle.sgf_tree.proofs.ValueEnds.{stops-faulty}

-- games that are unclosed are no collection
pub unclosed-unaccepted : (closed : Games) (g : UnclosedGame) (gs : List UnclosedGame) → accepted (after_game (record { closed = closed; unclosed = g ∷ gs })) ≡ None
unfolding accepted
unclosed-unaccepted no_games g gs = refl
unclosed-unaccepted (game first more below after) g gs = refl

-- after a node that no `;` follows the machine goes on as between games
node-between : (at : ℕ) (k : Stack) (b : ℕ) → is_white_space b ≡ false → b ≢ 59 → after_node at k b ≡ between_games k b
node-between at k b white ne = rw (white, ne_eqb b 59 ne)

module _ (t : List ℕ) where
  module _ (at place : ℕ) (k : Stack) (white : IsSpan is_white_space t at place) (after : ComesTo t at (opened k)) where
    pub place-reached : ComesTo t place (opened k)
    unfolding next_state
    place-reached = run-white t at place (opened k) (λ b at h. rw h) white.rises white.within white.passing after

    -- no `;` after the `(`
    pub place-faulty : (place < length t → get_or t place 0 ≢ 59) → IsFaultyAt t place
    unfolding next_state accepted
    place-faulty other = stops-faulty t place (opened k) white.within place-reached refl (λ lt. rw (white.stops lt, ne_eqb (get_or t place 0) 59 (other lt)))

    -- the first node
    pub place-node : place < length t → get_or t place 0 ≡ 59 → ComesTo t (place + 1) (new_node k true place)
    unfolding next_state
    place-node lt e = run-take-step t place (opened k) (new_node k true place) place-reached lt (rw e)

  -- a further node
  pub next-node : (end : ℕ) (whole : Started) → StandsAfterNode t end whole → end < length t → get_or t end 0 ≡ 59 → ComesTo t (end + 1) (new_node (ended whole) false end)
  next-node end whole stands lt e = grind (arith, common_steps, run-take-step)

  -- the game with one more node
  abbrev pub with_node : UnclosedGame → Node → UnclosedGame
  with_node last n = record { first = last.first; more = last.more ++ n ∷ []; below = last.below }

  pub nodes-first : (Wrote : List ℕ → Type 0) (at place text_end end : ℕ) (k : Stack) → IsSpan is_white_space t at place → ComesTo t at (opened k) → place < length t → get_or t place 0 ≡ 59
      → ArePropertiesRead Wrote t (place + 1) text_end end → (ps : List Property) × NodesSoFar t end k (new_game (record { place = place; properties = ps })) × Wrote (flat_map property_text ps)
  nodes-first Wrote at place text_end end k white after lt e read =
      let (ps, stands, wrote) = read.reached (record { stack = k; opens = true; place = place; properties = [] }) refl (place-node at place k white after lt e) in
      search rules

  pub nodes-next : (Wrote : List ℕ → Type 0) (place text_end end : ℕ) (k : Stack) (last : UnclosedGame) → NodesSoFar t place k last → place < length t → get_or t place 0 ≡ 59
      → ArePropertiesRead Wrote t (place + 1) text_end end → (ps : List Property) × NodesSoFar t end k (with_node last (record { place = place; properties = ps })) × Wrote (flat_map property_text ps)
  nodes-next Wrote place text_end end k last so_far lt e read = search (rules, next-node)

  -- no further node follows
  pub nodes-done : (end : ℕ) (k : Stack) (last : UnclosedGame) → NodesSoFar t end k last → (end < length t → get_or t end 0 ≢ 59)
      → StandsBetween t end (record { closed = k.closed; unclosed = last ∷ k.unclosed })
  nodes-done end k last so_far other = grind (arith, common_steps, node-between, unclosed-unaccepted)

  -- a further node's `;` begins a node
  pub nodes-node : (end : ℕ) (k : Stack) (last : UnclosedGame) → NodesSoFar t end k last → end < length t → get_or t end 0 ≡ 59
      → (n : Started) × ((n.properties ≡ []) × ComesTo t (end + 1) (in_node n))
  nodes-node end k last so_far lt e = (
    record { stack = ended so_far.whole; opens = false; place = end; properties = [] },
    (refl, next-node end so_far.whole so_far.stands lt e),
  )
