use Rattle.board_past.proofs.Common.{arith, all_of}
use Rattle.board_past.proofs.NumberLemmas.{has_colouring}
use Rattle.board_past.proofs.past.print_past.colourings.Colourings.has_near.Goals as goal

pub returns : goal.returns
returns c = λ same. has_colouring (all_of c.args.self.now) c.args.number c.args.board.now (omega (arith, c.stretch_start.ensures.start, c.if-number-stretch_start.false)) c.requires (c.is_at.ensures.0 same)
