use Rattle.board_points.proofs.ColumnLemmas.{all_in_mask}
use Rattle.board_points.proofs.columns.all_columns.Goals as goal

pub returns : goal.returns
returns c = all_in_mask c.args.side c.requires
