-- The stones of the columns so far are appended, too.
use Rattle.sgf_lines.proofs.Common.{ℕ, List, ◌*◌, ◌+◌, AreAppended}
use Rattle.sgf_lines.proofs.form.commands.push_row.Given as goal

abbrev pub invariant-columns : goal.invariant-columns
invariant-columns l =
    (before : List ℕ) → AreAppended l.board l.colour (l.row * l.board.side) before l.fn.output.items
    → AreAppended l.board l.colour (l.row * l.board.side + l.col) before l.output.items
