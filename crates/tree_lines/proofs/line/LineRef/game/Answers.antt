use Rattle.std.proofs.Common.{refl}
use Rattle.tree_lines.proofs.line.LineRef.game.Goals as goal

pub returns : goal.returns
returns c = refl
