-- Answers for speed: a wrong form is refused at once.
use Rattle.std.proofs.Common.{refl}
use Rattle.sgf_lines.proofs.options.Form.numbered.Goals as goal

pub returns-in-2 : goal.returns-in-2
returns-in-2 c = rw c.in-2.is refl
