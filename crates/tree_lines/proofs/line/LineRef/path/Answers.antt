use Rattle.std.proofs.Common.{rules}
use Rattle.tree_lines.proofs.line.LineRef.path.Goals as goal

pub returns : goal.returns
returns c = search rules
