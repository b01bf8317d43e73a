-- Nothing changes if the line doesn't have so many nodes. Else each state more is taken back, until no more are there.
use Rattle.judged_lines.proofs.Common.{◌≡◌, ◌∙◌, ◌≤◌, length, sym, arith, inl, inr, rules, back_to, IsScoreAt}
use Rattle.judged_lines.proofs.KeptScores.{scored_back, scored_none}
use Rattle.judged_lines.proofs.Judgements.{back_none, back_past, gone_back}
use Rattle.judged_lines.proofs.judging.judge.Judge.cut_back.Goals as goal
use Rattle.judged_lines.proofs.judging.judge.Judge.cut_back.Goals.{After-undo, else-is_some, else-is_some-via-else-is_some, else-is_some-via-then-is_some+else-count-self, else-is_some-via-then-is_some+then-count-self+else-not-left_board_since, else-newest_left_board, then-is_some+then-count-self+then-not-left_board_since, then-newest_left_board}

taken_back : (c : After-undo) → c.undo.game ≡ back_to c.in-Some.game c.args.count
taken_back c = sym (back_none c.undo.game c.args.count (omega (arith, c.undo-test.false, c.depth-in-undo.ensures.value))) ∙ c.undo.invariant

pub invariant_of-self : goal.invariant_of-self
invariant_of-self c =
    let s = c.self.inside in
    let known : IsScoreAt c.in-Some.game s.scored s.score = rw c.in-Some.is at c.self.invariant in
    let fewer : c.args.count ≤ length c.in-Some.game.earlier = omega (arith, c.if-count-depth.true, c.depth.ensures.value) in
    rw (taken_back (goal.at.invariant_of-self c).After-undo, c.min-self-inside.ensures)
    (elim c.if-is_some.branch [
      | then-is_some+then-count-self+then-not-left_board_since w ↦ rw w.self-inside-is tt
      | else-is_some w ↦ rw w.self-inside-is (elim w.else-is_some.branch [
        | else-is_some-via-then-is_some+then-count-self+else-not-left_board_since w2 ↦ elim w2.if-newest_left_board.branch [
          | then-newest_left_board w3 ↦ scored_back c.in-Some.game c.args.count s.scored s.score fewer (inr (w3.left_board_since.ensures (sym w3.value-is ∙ w2.if-not-left_board_since.false))) known
          | else-newest_left_board w3 ↦ absurd cc
        ]
        | else-is_some-via-then-is_some+else-count-self w2 ↦ scored_back c.in-Some.game c.args.count s.scored s.score fewer (inl w2.if-count-self.false) known
        | else-is_some-via-else-is_some w2 ↦ scored_none _ _ s.score w2.if-is_some.ensures
      ])
    ])

pub returns-after-undo-clause-judged : goal.returns-after-undo-clause-judged
returns-after-undo-clause-judged c =
    let s = c.self.inside in
    gone_back s.ended s.game c.in-Some.game s.plays c.args.self.now c.self.view_is c.in-Some.is c.args.count c.undo.game (omega (arith, c.if-count-depth.true, c.depth.ensures.value))
    (taken_back (goal.at.returns-after-undo-clause-judged c).After-undo)

pub returns-else-count-depth-clause-judged : goal.returns-else-count-depth-clause-judged
returns-else-count-depth-clause-judged c = search (rules, back_past)
