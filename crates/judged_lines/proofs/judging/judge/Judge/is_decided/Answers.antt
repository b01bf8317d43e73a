-- An answer for speed: a wrong test is refused sooner.
use Rattle.std.proofs.Common.{rules}
use Rattle.judged_lines.proofs.judging.judge.Judge.is_decided.Goals as goal

pub returns-else-is_none : goal.returns-else-is_none
returns-else-is_none c = search rules
