-- A follower goes on by a line: the verdict that it gives, and the nodes that it plays for the lines of its streak.
use Rattle.judged_lines.proofs.Common.{slice_get_within, PlacesRise, node_count, CursorState, advanced, nodes_of, line_before, nodes_before, lines, Before, Held, Verdict, FollowerState, HasPlays, StandsBy, index_by, all_judged_places, verdict, verdict_of, judged_nodes, ◌≡◌, ℕ, ◌+◌, ◌-◌, ◌<◌, ◌≤◌, length, take, drop, slice_get, Some, sym, ap, ◌∙◌, arith, rules, option_map, take-take}
use Rattle.judged_lines.specs.GoingOn.{next_by}
use Rattle.judged_lines.specs.inner.Followers.{state_by, Follows}
use Rattle.judged_lines.proofs.Keeping.{line_next}
use Rattle.tree_lines.proofs.LeafLines.{lines_within}
use Rattle.judged_lines.proofs.Lists.{get_dropped, get_taken}
use Rattle.judged_lines.proofs.StreakPlays.{page_from, few_judged, adds_judged, shares_by, Shares}

module _ (before : Before) (old : CursorState) (holds : Type 0) (plays streak : ℕ) (h : Follows before old holds plays streak) where
  streak_within : streak ≤ index_by before old.index
  streak_within = search rules

  abbrev first : ℕ
  first = index_by before old.index - streak

  pub few_played : PlacesRise old.games → plays ≤ node_count old.games
  few_played rise =
      let page = page_from old.games first streak in
      let fewer : length (all_judged_places (take streak page)) ≤ node_count old.games = few_judged old.games rise first streak streak in
      omega (arith, h.plays_are, fewer, ap (λ ls. length (all_judged_places ls)) (take-take streak streak (drop first (lines old.games)) (omega arith)))

  -- the next line was judged
  module _ (count : ℕ) (p : HasPlays (λ n. n) before old count) where
    pub streak_countable : streak < node_count old.games
    streak_countable = omega (arith, streak_within, slice_get_within (lines old.games) (index_by before old.index) p.line p.found, lines_within old.games)

    module _ (new : CursorState) (moved : new ≡ advanced (next_by before old)) where
      line_is : line_before new ≡ Some p.line
      line_is = ap line_before moved ∙ line_next (next_by before old) ∙ p.found

      -- in terms of the follower's state
      pub given : (at : FollowerState) → state_by before old streak ≡ at → (told : Verdict) → told ≡ verdict_of (nodes_before new) → option_map verdict (slice_get (lines at.games) at.index) ≡ Some told
      given at is told told_is = rw (← is) (ap (option_map verdict) p.found ∙ ap Some (sym (told_is ∙ ap (λ o. verdict_of (nodes_of o)) line_is)))

      module _ (rise : PlacesRise old.games) where
        shares : Shares old.games rise first (streak + 1) streak p.held
        shares = search (rules, shares_by)

        -- it was played from where it leaves the line before it
        pub follows_on : (new_holds : Type 0) (new_plays : ℕ) → StandsBy Held (nodes_before new) new_holds → new_plays ≡ plays + count → Follows Held new new_holds new_plays (streak + 1)
        follows_on new_holds new_plays stands rises =
            let rest = drop first (lines old.games) in
            let page = take (streak + 1) rest in
            let games = ap (λ (s : CursorState). s.games) moved in
            let index = ap (λ (s : CursorState). s.index) moved in
            let next : new.index - (streak + 1) ≡ first = omega (arith, index, streak_within) in
            let here : slice_get page streak ≡ Some p.line =
            get_taken rest (streak + 1) streak (omega arith) ∙ get_dropped (lines old.games) first streak ∙ ap (slice_get (lines old.games)) (omega (arith, streak_within)) ∙ p.found in
            let more : length (all_judged_places (take (streak + 1) page)) ≡ length (all_judged_places (take streak page)) + (length (judged_nodes p.line) - p.held) =
            adds_judged old.games rise first (streak + 1) streak p.held p.line here shares in
            let whole : take (streak + 1) page ≡ page = take-take (streak + 1) (streak + 1) rest (omega arith) in
            let front : take streak page ≡ take streak rest = take-take streak (streak + 1) rest (omega arith) in
            record {
              stands = stands;
              is_streak = (omega arith, omega (arith, streak_within, index));
              plays_are = rw (games, next, ← whole) (omega (arith, more, ap (λ ls. length (all_judged_places ls)) front, p.count_is, h.plays_are, rises));
            }
