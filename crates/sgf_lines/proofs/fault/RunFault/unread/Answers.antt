-- The place stays as it was.
use Rattle.std.proofs.Common.{refl}
use Rattle.sgf_lines.proofs.fault.RunFault.unread.Goals as goal

pub returns-in-NotSgf : goal.returns-in-NotSgf
returns-in-NotSgf c = rw c.in-NotSgf.is refl
