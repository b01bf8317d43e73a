-- Each line of the output is a game of its own, and its nodes have the properties that they had.
use Rattle.sgf_lines.proofs.Again.{verdicts_kept}
use Rattle.sgf_lines.proofs.laws.kept.Goals as goal

pub returns : goal.returns
returns c = verdicts_kept c.one.ensures
