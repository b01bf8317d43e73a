use Rattle.std.proofs.Common.{rules}
use Rattle.tree_lines.proofs.cursor.Cursor.into_parts.Goals as goal

pub returns : goal.returns
returns c = search rules
