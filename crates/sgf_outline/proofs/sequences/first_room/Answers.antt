use Rattle.std.proofs.Common.{arith}
use Rattle.sgf_outline.proofs.sequences.first_room.Goals as goal

pub returns : goal.returns
returns c = omega arith
