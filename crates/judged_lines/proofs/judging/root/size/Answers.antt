-- An answer for speed: a size that is refused wrongly is found sooner.
use Rattle.std.proofs.Common.{rules}
use Rattle.judged_lines.proofs.judging.root.size.Goals as goal

pub returns-else-side-ge1 : goal.returns-else-side-ge1
returns-else-side-ge1 c = search rules
