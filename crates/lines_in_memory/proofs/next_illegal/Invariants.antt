-- Each pass of the loop leaves one line less to go over.
use Rattle.std.proofs.Common.{length, ◌-◌}
use Rattle.tree_lines.specs.Lines.{lines}
use Rattle.lines_in_memory.proofs.next_illegal.Given as goal

abbrev pub decreases-verdicts : goal.decreases-verdicts
decreases-verdicts l = length (lines l.follower.games) - l.follower.index
