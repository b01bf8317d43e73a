-- The byte order mark, by the machine, and the white space after it.
use Rattle.sgf_tree.proofs.Common.{rules, ◌≡◌, ◌≢◌, ℕ, ◌+◌, ◌<◌, inl, inr, List, [], length, get_or, refl, ◌∙◌, arith, ne_eqb, cases_lt, IsSpan, Stack, start, first_of_mark, second_of_mark, after_game, next_state, accepted, is_white_space, no_games, IsFaultyAt, StandsBetween, IsByteOrderMarkRead, ComesTo}
use Rattle.sgf_tree.proofs.GamesLoop.{stands-after}
use Rattle.sgf_tree.proofs.Run.{run-take-none, run-take-step}
use Rattle.sgf_tree.proofs.ValueEnds.{stops-faulty}

-- no game yet
abbrev nothing : Stack
nothing = record { closed = no_games; unclosed = [] }

module _ (t : List ℕ) where
  -- no mark
  pub mark_none : (0 < length t → get_or t 0 0 ≢ 239) → IsByteOrderMarkRead t 0
  unfolding next_state accepted
  mark_none other = search (rules, run-take-none, ne_eqb)

  first-reached : 0 < length t → get_or t 0 0 ≡ 239 → ComesTo t 1 first_of_mark
  unfolding next_state
  first-reached lt e = run-take-step t 0 start first_of_mark (run-take-none t) lt (rw e)

  second-reached : 1 < length t → get_or t 0 0 ≡ 239 → get_or t 1 0 ≡ 187 → ComesTo t 2 second_of_mark
  unfolding next_state
  second-reached lt e f = run-take-step t 1 first_of_mark second_of_mark (first-reached (omega arith) e) lt (rw f)

  -- the whole mark
  pub mark_read : 2 < length t → get_or t 0 0 ≡ 239 → get_or t 1 0 ≡ 187 → get_or t 2 0 ≡ 191 → IsByteOrderMarkRead t 3
  unfolding next_state
  mark_read lt e f g =
      record {
        within = omega arith;
        state = after_game nothing;
        reached = run-take-step t 2 second_of_mark (after_game nothing) (second-reached (omega arith) e f) lt (rw g);
        next = λ _. refl;
        end = refl;
      }

  -- a part of it
  pub first_faulty : 0 < length t → get_or t 0 0 ≡ 239 → (1 < length t → get_or t 1 0 ≢ 187) → IsFaultyAt t 1
  unfolding next_state accepted
  first_faulty lt e other = stops-faulty t 1 first_of_mark (omega arith) (first-reached lt e) refl (λ h. rw (ne_eqb (get_or t 1 0) 187 (other h)))

  pub second_faulty : 1 < length t → get_or t 0 0 ≡ 239 → get_or t 1 0 ≡ 187 → (2 < length t → get_or t 2 0 ≢ 191) → IsFaultyAt t 2
  unfolding next_state accepted
  second_faulty lt e f other = stops-faulty t 2 second_of_mark (omega arith) (second-reached lt e f) refl (λ h. rw (ne_eqb (get_or t 2 0) 191 (other h)))

  -- the white space before the first game
  pub games_begin : (mark at : ℕ) → IsByteOrderMarkRead t mark → IsSpan is_white_space t mark at → StandsBetween t at nothing
  games_begin mark at read white =
      elim (cases_lt mark at) [
        | inl lt ↦
            let short : mark < length t = omega (arith, white.within) in
            let first : ComesTo t (mark + 1) (after_game nothing) =
            run-take-step t mark read.state (after_game nothing) read.reached short (read.next short ∙ (let space = white.passing mark (omega arith) lt in rw space)) in
            stands-after t (mark + 1) at nothing
            (record { rises = omega arith; within = white.within; passing = λ i lo hi. white.passing i (omega arith) hi; stops = white.stops }) first
        | inr ge ↦ search rules
      ]
