-- An answer for speed: a wrong streak is refused sooner.
use Rattle.std.proofs.Common.{rules}
use Rattle.judged_lines.proofs.follower.Follower.after.Goals as goal

pub invariant_of-result : goal.invariant_of-result
invariant_of-result c = search rules
