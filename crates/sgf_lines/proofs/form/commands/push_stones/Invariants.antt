-- The stones of the rows so far are appended.
use Rattle.sgf_lines.proofs.Common.{◌*◌, AreAppended}
use Rattle.sgf_lines.proofs.form.commands.push_stones.Given as goal

abbrev pub invariant-rows : goal.invariant-rows
invariant-rows l = AreAppended l.board l.colour (l.row * l.board.side) l.fn.output.items l.output.items
