-- The cursor stands after the line with that place.
use Rattle.std.proofs.Common.{rules}
use Rattle.judged_lines.proofs.judging.one_line.judge_at.Goals as goal

pub returns-clause-verdict : goal.returns-clause-verdict
returns-clause-verdict c = search rules

pub returns-clause-why : goal.returns-clause-why
returns-clause-why c = tt
