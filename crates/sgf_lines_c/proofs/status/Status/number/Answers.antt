use Rattle.std.proofs.Common.{rules}
use Rattle.sgf_lines_c.proofs.status.Status.number.Goals as goal

-- written out though the prover needs no help: it then refuses a wrong body sooner
pub returns-in-RoomTooSmall : goal.returns-in-RoomTooSmall
returns-in-RoomTooSmall c = search rules
