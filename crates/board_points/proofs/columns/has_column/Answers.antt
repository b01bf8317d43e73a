use Rattle.board_points.proofs.Common.{ap, ◌==◌, shr_and_one}
use Rattle.board_points.proofs.columns.has_column.Goals as goal

pub returns : goal.returns
returns c = ap (λ n. n == 1) (shr_and_one c.args.word c.args.col)
