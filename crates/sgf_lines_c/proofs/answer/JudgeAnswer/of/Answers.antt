use Rattle.std.proofs.Common.{rules}
use Rattle.sgf_lines_c.proofs.answer.JudgeAnswer.of.Goals as goal

-- both are written out though the prover needs no help: it then refuses a wrong body sooner
pub returns-in-Score : goal.returns-in-Score
returns-in-Score c = search rules

pub returns-in-Illegal : goal.returns-in-Illegal
returns-in-Illegal c = search rules
