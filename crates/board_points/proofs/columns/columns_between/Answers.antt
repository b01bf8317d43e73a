use Rattle.board_points.proofs.ColumnLemmas.{columns_between}
use Rattle.board_points.proofs.columns.columns_between.Goals as goal

pub returns : goal.returns
returns c = λ col. columns_between c.args.first c.args.last col c.requires.ordered c.requires.few
