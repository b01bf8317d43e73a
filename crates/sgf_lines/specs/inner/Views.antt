-- The text that a row has so far, and the row of a line.
use Rattle.std.specs.Prelude.{ℕ, List, drop, length}
use Rattle.tree_lines.specs.Lines.{Line, place_of}
use Rattle.sgf_lines.specs.ListRow.{row_text}
use Rattle.judged_lines.specs.declared.verdict.Verdict.{Verdict}
use Rattle.sgf_lines.specs.declared.form.text_row.TextRow.{TextRow}

abbrev pub built_text : TextRow → List ℕ
built_text row = drop row.start row.bytes

-- with this verdict, and without a line feed
abbrev pub row_of : Line → Verdict → List ℕ
row_of line told = row_text (place_of line) line.game_number (length line.nodes) told
