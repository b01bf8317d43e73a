-- The row of a line: its place, its game, the number of its nodes, and its verdict.
use Rattle.std.specs.Prelude.{ℕ, if◌then◌else◌, List, ◌++◌, length, codes, decimal}
use Rattle.go_board.specs.Reason.{word_of}
use Rattle.tree_lines.specs.Lines.{Line, place_of}
use Rattle.judged_lines.specs.declared.verdict.Verdict.TheVariants.{Score, Illegal, NotGo, BadSize}
use Rattle.judged_lines.specs.declared.verdict.Verdict.{Verdict}
use Rattle.judged_lines.specs.Verdict.{verdict}

-- A verdict in words. The scores are Black's, then White's. For an illegal
-- line: the turn, the place of the illegal node, the reason.
abbrev pub verdict_text : Verdict → List ℕ
verdict_text (Score black white over) =
    codes "score " ++ decimal black ++ codes " " ++ decimal white ++ (if over then codes " over" else codes " open")
verdict_text (Illegal turn place reason) =
    codes "illegal " ++ decimal turn ++ codes " " ++ decimal place ++ codes " " ++ word_of reason
verdict_text NotGo = codes "unjudged game"
verdict_text BadSize = codes "unjudged size"

-- the row of a line with this place, game number, number of nodes and verdict; without a line feed
abbrev pub row_text : ℕ → ℕ → ℕ → Verdict → List ℕ
row_text place game_number count told =
    decimal place ++ codes " " ++ decimal game_number ++ codes " " ++ decimal count ++ codes " " ++ verdict_text told

abbrev pub list_row : Line → List ℕ
list_row line = row_text (place_of line) line.game_number (length line.nodes) (verdict line)

-- the record of a line in list form
abbrev pub list_record : Line → List ℕ
list_record line = list_row line ++ codes "\n"
