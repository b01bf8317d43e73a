-- Each answer is only there for speed.
use Rattle.std.proofs.Common.{rules}
use Rattle.sgf_lines.proofs.fault.RunFault.ends_too_early.Goals as goal

pub returns-in-NotSgf : goal.returns-in-NotSgf
returns-in-NotSgf c = search rules

pub returns-in_default : goal.returns-in_default
returns-in_default c = search rules
