-- The lines that a run is asked for.
use Rattle.std.specs.Prelude.{ℕ, ◌==◌, if◌then◌else◌, List, [], ◌∷◌, take, Option, Some, None, option_map}
use Rattle.sgf_outline.specs.Tree.{Games}
use Rattle.tree_lines.specs.Lines.{Line, lines, place_of}
pub use Rattle.sgf_lines.specs.declared.options.Options.{Options}

-- the lines that follow the line with this place; None if no line has it
abbrev pub lines_after : List Line → ℕ → Option (List Line)
lines_after [] place = None
lines_after (line ∷ others) place = if place_of line == place then Some others else lines_after others place

-- the lines after the line with this place; all lines if no place is asked for
abbrev pub lines_asked : List Line → Option ℕ → Option (List Line)
lines_asked lines None = Some lines
lines_asked lines (Some place) = lines_after lines place

-- the first `limit` lines; all lines if there is no limit
abbrev pub limited : Option ℕ → List Line → List Line
limited None lines = lines
limited (Some limit) lines = take limit lines

-- the page that the options ask for; None if no line has the place that they name
abbrev pub page : Options → Games → Option (List Line)
page options games = option_map (limited options.limit) (lines_asked (lines games) options.after)
