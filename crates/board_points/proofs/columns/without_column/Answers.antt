use Rattle.board_points.proofs.Common.{arith}
use Rattle.board_points.proofs.ColumnLemmas.{without_there, without_elsewhere}
use Rattle.board_points.proofs.columns.without_column.Goals as goal

pub returns : goal.returns
returns c = record {
  there = without_there c.args.word c.args.col (omega (arith, c.ranges.word.fits)) c.requires;
  elsewhere = without_elsewhere c.args.word c.args.col (omega (arith, c.ranges.word.fits)) c.requires;
}
