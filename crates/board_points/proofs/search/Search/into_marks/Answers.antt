use Rattle.board_points.proofs.Common.{rules}
use Rattle.board_points.proofs.search.Search.into_marks.Goals as goal

pub returns : goal.returns
returns c = search rules
