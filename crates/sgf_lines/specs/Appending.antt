-- The rows of a text that follows another one, for the law of one text after another.
use Rattle.std.specs.Prelude.{ℕ, ◌+◌, List, ◌++◌, length, codes}
use Rattle.tree_lines.specs.Lines.{Line, place_of}
use Rattle.sgf_lines.specs.ListRow.{row_text}
use Rattle.judged_lines.specs.declared.verdict.Verdict.TheVariants.{Score, Illegal, NotGo, BadSize}
use Rattle.judged_lines.specs.declared.verdict.Verdict.{Verdict}
use Rattle.judged_lines.specs.Verdict.{verdict}

-- the verdict on a line that stands `by` bytes further on: the place of an illegal node is raised by `by`
abbrev pub raised_verdict : ℕ → Verdict → Verdict
raised_verdict by (Score black white over) = Score black white over
raised_verdict by (Illegal turn place reason) = Illegal turn (by + place) reason
raised_verdict by NotGo = NotGo
raised_verdict by BadSize = BadSize

-- The list record of a line that stands `by` bytes further on, after `games` more games. The line's place and the place of an
-- illegal node are raised by `by`, and the number of the line's game by `games`.
abbrev pub raised_record : ℕ → ℕ → Line → List ℕ
raised_record by games line =
    row_text (by + place_of line) (games + line.game_number) (length line.nodes) (raised_verdict by (verdict line)) ++ codes "\n"
