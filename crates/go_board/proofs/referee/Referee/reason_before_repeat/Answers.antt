use Rattle.go_board.proofs.Common.{rules}
use Rattle.go_board.proofs.referee.Referee.reason_before_repeat.Goals as goal

-- these are only there for speed
pub returns-then-over-clause-known : goal.returns-then-over-clause-known
returns-then-over-clause-known g c = search rules

pub returns-else-over-clause-known : goal.returns-else-over-clause-known
returns-else-over-clause-known g c = search rules
