-- How the machine goes from game to game.
use Rattle.sgf_tree.proofs.Common.{◌≡◌, ◌≢◌, ℕ, ◌+◌, ◌<◌, ◌≤◌, false, List, [], ◌∷◌, length, get_or, Some, None, refl, ap, subst, ◌∙◌, arith, ne_eqb, rules, common_steps, IsSpan, UnclosedGame, Stack, opened, after_game, between_games, close_in, whole_game, next_state, accepted, is_white_space, Games, no_games, game, game_count, unclosed_count, IsFaultyAt, StandsBetween, ComesTo, add_games, closed-in}
use Rattle.sgf_tree.proofs.Run.{run-take-step}
use Rattle.sgf_tree.proofs.Spans.{run-white}
use Rattle.sgf_tree.proofs.ValueEnds.{ends-faulty, refused-faulty}

pub none-accepted : (closed : Games) → game_count closed ≡ 0 → accepted (after_game (record { closed = closed; unclosed = [] })) ≡ None
unfolding accepted
none-accepted no_games e = refl
none-accepted (game first more below after) e = absurd (omega arith)

some-accepted : (closed : Games) → 0 < game_count closed → accepted (after_game (record { closed = closed; unclosed = [] })) ≡ Some closed
unfolding accepted
some-accepted no_games h = absurd (omega arith)
some-accepted (game first more below after) h = refl

-- a byte that is no `(` and no `)`
between-refused : (k : Stack) (b : ℕ) → is_white_space b ≡ false → b ≢ 40 → b ≢ 41 → between_games k b ≡ None
between-refused k b white ne40 ne41 = rw (white, ne_eqb b 40 ne40, ne_eqb b 41 ne41)

pub depth-closed : (closed : Games) (g : UnclosedGame) (gs : List UnclosedGame) → length (add_games closed gs (whole_game g)).unclosed ≡ length gs
depth-closed closed g gs = search rules

-- an unclosed game has a node
pub depth-within : (closed : Games) (gs : List UnclosedGame) → length gs ≤ unclosed_count closed gs
depth-within closed [] = omega arith
depth-within closed (g ∷ gs) = omega (arith, depth-within closed gs)

-- after a game and white space
pub stands-after : (t : List ℕ) (from at : ℕ) (k : Stack) → IsSpan is_white_space t from at → ComesTo t from (after_game k) → StandsBetween t at k
unfolding next_state
stands-after t from at k white reached = record {
  state = after_game k;
  reached = run-white t from at (after_game k) (λ b at h. rw h) white.rises white.within white.passing reached;
  next = λ _. refl;
  end = refl;
  not_white_space = white.stops;
}

module _ (t : List ℕ) where
  module _ (at : ℕ) (k : Stack) (stands : StandsBetween t at k) where
    -- a `(`
    pub games-unclosed : at < length t → get_or t at 0 ≡ 40 → ComesTo t (at + 1) (opened k)
    games-unclosed lt e = grind (arith, common_steps, run-take-step)

    -- another byte
    pub games-faulty : at < length t → get_or t at 0 ≢ 40 → get_or t at 0 ≢ 41 → IsFaultyAt t at
    games-faulty lt ne40 ne41 = grind (arith, common_steps, refused-faulty, between-refused)

    -- a `)` with no game unclosed
    pub close-faulty : at < length t → get_or t at 0 ≡ 41 → k.unclosed ≡ [] → IsFaultyAt t at
    close-faulty lt e none = grind (arith, common_steps, refused-faulty)

    -- a `)` that ends a game
    pub close-stands : (g : UnclosedGame) (gs : List UnclosedGame) (next : ℕ) → k.unclosed ≡ g ∷ gs → at < length t → get_or t at 0 ≡ 41 → IsSpan is_white_space t (at + 1) next
        → StandsBetween t next (add_games k.closed gs (whole_game g))
    close-stands g gs next is lt e white =
        let step_is = stands.next lt ∙ ap (between_games k) e ∙ ap (close_in k.closed) is ∙ closed-in k.closed g gs in
        search (rules, stands-after, run-take-step)

    -- the end of the text
    module _ (ends : at ≡ length t) where
      pub games-unfinished : accepted (after_game k) ≡ None → IsFaultyAt t (length t)
      games-unfinished none = grind (arith, common_steps, ends-faulty)

      pub games-whole : ComesTo t (length t) stands.state
      games-whole = subst (λ i. ComesTo t i stands.state) ends stands.reached

      pub games-accepted : k.unclosed ≡ [] → 0 < game_count k.closed → accepted stands.state ≡ Some k.closed
      games-accepted all some = grind (arith, common_steps, some-accepted)
