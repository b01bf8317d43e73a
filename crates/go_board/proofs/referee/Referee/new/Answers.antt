use Rattle.go_board.proofs.Common.{ap, ◌∙◌, only}
use Rattle.go_board.proofs.EarlierLemmas.{IsRefereeKept-begun, states_of-begun}
use Rattle.go_board.proofs.referee.Referee.new.Goals as goal

pub invariant_of-result : goal.invariant_of-result
invariant_of-result g c =
    IsRefereeKept-begun c.args.size (g.P.Past.held c.in_ok-new.field-0) c.in_ok-with_capacity.field-0.items (c.in_ok-new.ensures ∙ ap only c.empty.ensures) c.in_ok-with_capacity.ensures.items

pub returns : goal.returns
returns g c =
    states_of-begun c.args.size (g.P.Past.held c.in_ok-new.field-0) c.in_ok-with_capacity.field-0.items (c.in_ok-new.ensures ∙ ap only c.empty.ensures) c.in_ok-with_capacity.ensures.items
