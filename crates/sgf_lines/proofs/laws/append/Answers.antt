-- The lines of the later games are the same lines further on.
use Rattle.std.proofs.Common.{length}
use Rattle.sgf_lines.proofs.Appended.{rows_joined}
use Rattle.sgf_lines.proofs.laws.append.Goals as goal

pub returns-clause-rows : goal.returns-clause-rows
returns-clause-rows c = λ games others text later spelled also unmarked. rows_joined games others (length text)
