-- What is said of the text is said of the count, whatever source gave it. There are as many lines as leaves.
use Rattle.std.proofs.Common.{rules}
use Rattle.tree_lines.proofs.LeafLines.{lines_leaves}
use Rattle.sgf_lines.proofs.LineCounts.{count_of_games}
use Rattle.sgf_lines.proofs.counting.count_text.Goals as goal

pub returns-in-Ok : goal.returns-in-Ok
returns-in-Ok c source new_source read = search (rules, count_of_games, lines_leaves)
