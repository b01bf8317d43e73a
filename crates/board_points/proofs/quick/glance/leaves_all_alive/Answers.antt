use Rattle.board_points.proofs.Common.{arith, rules}
use Rattle.board_points.proofs.WordLemmas.{columns_off}
use Rattle.board_points.proofs.quick.glance.leaves_all_alive.Goals as goal

pub five_rows_show_alive-requires-clause-first : goal.five_rows_show_alive-requires-clause-first
five_rows_show_alive-requires-clause-first c = c.row_inside-first.ensures.is c.args.point.row 0 (omega (arith, c.from-row.ensures, c.if-row-lt2.false))

pub five_rows_show_alive-requires-clause-off : goal.five_rows_show_alive-requires-clause-off
five_rows_show_alive-requires-clause-off c = columns_off _ _ c.requires.rows.few (search rules) c.all_columns-off.ensures

pub row_inside-first-requires-clause-off : goal.row_inside-first-requires-clause-off
row_inside-first-requires-clause-off c = columns_off _ _ c.requires.rows.few (search rules) c.all_columns-off.ensures

pub row_inside-above-requires-clause-off : goal.row_inside-above-requires-clause-off
row_inside-above-requires-clause-off c = columns_off _ _ c.requires.rows.few (search rules) c.all_columns-off.ensures

pub row_inside-here-requires-clause-off : goal.row_inside-here-requires-clause-off
row_inside-here-requires-clause-off c = columns_off _ _ c.requires.rows.few (search rules) c.all_columns-off.ensures

pub row_inside-below-requires-clause-off : goal.row_inside-below-requires-clause-off
row_inside-below-requires-clause-off c = columns_off _ _ c.requires.rows.few (search rules) c.all_columns-off.ensures

pub row_inside-last-requires-clause-off : goal.row_inside-last-requires-clause-off
row_inside-last-requires-clause-off c = columns_off _ _ c.requires.rows.few (search rules) c.all_columns-off.ensures
