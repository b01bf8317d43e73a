use Rattle.board_points.specs.declared.size.TheConstants.{MAX_ROWS}
use Rattle.board_points.proofs.MarkingLemmas.{rows-none}
use Rattle.board_points.proofs.marks.Marks.none.Goals as goal

pub returns : goal.returns
returns c = rows-none c.args.size MAX_ROWS c.no_rows-rows.result c.no_rows-rows.ensures
