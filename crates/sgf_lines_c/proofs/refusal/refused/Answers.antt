use Rattle.std.proofs.Common.{rules}
use Rattle.sgf_lines_c.proofs.refusal.refused.Goals as goal

-- these are written out though the prover needs no help: it then refuses a wrong body sooner
pub returns-in-TooLong : goal.returns-in-TooLong
returns-in-TooLong c = search rules

pub returns-in-NotSgf-2 : goal.returns-in-NotSgf-2
returns-in-NotSgf-2 c = search rules

pub returns-in-NoSuchLine : goal.returns-in-NoSuchLine
returns-in-NoSuchLine c = search rules

pub returns-in-Write : goal.returns-in-Write
returns-in-Write c = search rules
