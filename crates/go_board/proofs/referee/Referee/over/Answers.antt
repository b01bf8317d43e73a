use Rattle.go_board.proofs.Common.{ap, States, is_over}
use Rattle.go_board.proofs.referee.Referee.over.Goals as goal

pub returns-clause-value : goal.returns-clause-value
returns-clause-value g c = rw c.passes.ensures.value (ap (λ (states : States). is_over states.present) c.self.view_is)
