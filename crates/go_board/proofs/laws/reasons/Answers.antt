use Rattle.go_board.proofs.TurnLemmas.{first_reason, no_reason}
use Rattle.go_board.proofs.laws.reasons.Goals as goal

pub returns : goal.returns
returns c = record { first = first_reason; none = no_reason }
