use Rattle.std.proofs.Common.{sym, ap}
use Rattle.go_board.specs.Reason.{word_of}
use Rattle.go_board.proofs.reason.Reason.word.Goals as goal

pub returns-in-Turn : goal.returns-in-Turn
returns-in-Turn c = ap word_of (sym c.in-Turn.is)
