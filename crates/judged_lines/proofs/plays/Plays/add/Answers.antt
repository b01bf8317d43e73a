-- An answer for speed: a wrong sum is refused sooner.
use Rattle.std.proofs.Common.{rules}
use Rattle.judged_lines.proofs.plays.Plays.add.Goals as goal

pub returns : goal.returns
returns c = search rules
