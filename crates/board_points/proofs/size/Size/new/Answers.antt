use Rattle.board_points.proofs.Common.{rules}
use Rattle.board_points.proofs.size.Size.new.Goals as goal

pub returns-else-n-ge1 : goal.returns-else-n-ge1
returns-else-n-ge1 c = search rules
