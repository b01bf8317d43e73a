-- The answer is only there for speed: it refuses a wrong status at once.
use Rattle.std.proofs.Common.{rules}
use Rattle.sgf_lines_c.proofs.judge.judge_line.Goals as goal

pub returns-in-Ok : goal.returns-in-Ok
returns-in-Ok c = search rules
