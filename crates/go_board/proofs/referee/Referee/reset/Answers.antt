use Rattle.go_board.proofs.Common.{ap, ◌∙◌, only}
use Rattle.go_board.proofs.EarlierLemmas.{IsRefereeKept-begun, states_of-begun}
use Rattle.go_board.proofs.referee.Referee.reset.Goals as goal

pub invariant_of-self-2 : goal.invariant_of-self-2
invariant_of-self-2 g c =
    IsRefereeKept-begun c.args.size (g.P.Past.held c.reset.new.self) c.clear.new.self.items (c.in_ok-reset.ensures.ok ∙ ap only c.empty.ensures) c.clear.ensures.items

pub returns-clause-ok : goal.returns-clause-ok
returns-clause-ok g c =
    states_of-begun c.args.size (g.P.Past.held c.reset.new.self) c.clear.new.self.items (c.in_ok-reset.ensures.ok ∙ ap only c.empty.ensures) c.clear.ensures.items
