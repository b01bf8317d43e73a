use Rattle.board_past.proofs.Common.{false≢true}
use Rattle.board_past.proofs.past.print_past.PrintPast.play_asked.Goals as goal

pub play_new-requires-clause-known : goal.play_new-requires-clause-known
play_new-requires-clause-known c = record { settled = λ _. c.requires.settled; fresh = λ is. absurd (false≢true is) }
