use Rattle.go_board.proofs.Common.{subst, arith, States, HadSameBoardSince, false≢true}
use Rattle.go_board.proofs.EarlierLemmas.{same_board_since}
use Rattle.go_board.proofs.referee.Referee.left_board_since.Goals as goal

pub returns : goal.returns
returns g c = λ all.
    let was = c.self.inside in
    subst (λ (s : States). HadSameBoardSince s c.args.depth) c.self.view_is
    (same_board_since (g.P.Past.held was.past) was.mover was.turns was.earlier.items c.calls.count c.args.depth (omega (arith, c.calls-test.false)) c.calls.invariant.still)

-- only there for speed
pub returns-then-grew : goal.returns-then-grew
returns-then-grew g c = λ is. absurd (false≢true is)
