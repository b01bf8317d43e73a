-- A score that is known is that of the present board, if each node since then left the board alone.
use Rattle.judged_lines.proofs.Common.{Some, rules, IsScoreOf}
use Rattle.judged_lines.proofs.Judgements.{back_none}
use Rattle.judged_lines.proofs.KeptScores.{scored_now}
use Rattle.judged_lines.proofs.judging.judge.Judge.verdict.Goals as goal
use Rattle.judged_lines.proofs.judging.judge.Judge.verdict.Goals.{After-over, in-Some, in_default}

score_is : (c : After-over) → IsScoreOf c.in-None-Some.game.present (Some c.match-self-3.areas)
score_is c = elim c.match-self-3.branch [
  | in-Some w ↦
      rw w.areas-is
      (scored_now c.in-None-Some.game c.self.inside.scored c.self.inside.score w.in-Some.known w.in-Some.is (rw c.in-None-Some.is-1 at c.self.invariant) (w.left_board_since.ensures w.if-left_board_since.true))
  | in_default w ↦ rw w.areas-is (rw w.board.ensures at w.score-areas.ensures.black, rw w.board.ensures at w.score-areas.ensures.white)
]

pub invariant_of-self : goal.invariant_of-self
invariant_of-self c = rw c.in-None-Some.is-1 (search (rules, score_is c, back_none))

pub returns-after-self-3-clause-told : goal.returns-after-self-3-clause-told
returns-after-self-3-clause-told c = search (rules, score_is c)
