-- Each record is a game of one line, spelled as its parts were in the text.
use Rattle.sgf_lines.proofs.Again.{sgf_again}
use Rattle.sgf_lines.proofs.laws.again.Goals as goal

pub returns : goal.returns
returns c = sgf_again
