use Rattle.std.proofs.Common.{rules}
use Rattle.sgf_lines_c.proofs.answer.reason_number.Goals as goal

-- written out though the prover needs no help: it then refuses a wrong body sooner
pub returns-in-Repeat : goal.returns-in-Repeat
returns-in-Repeat c = search rules
