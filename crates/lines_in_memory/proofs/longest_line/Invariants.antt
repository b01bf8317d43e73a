-- Each pass of the loop leaves one line less to go over.
use Rattle.std.proofs.Common.{length, ◌-◌}
use Rattle.tree_lines.specs.Lines.{lines}
use Rattle.lines_in_memory.proofs.longest_line.Given as goal

abbrev pub decreases-lines : goal.decreases-lines
decreases-lines l = length (lines l.cursor.games) - l.cursor.index
