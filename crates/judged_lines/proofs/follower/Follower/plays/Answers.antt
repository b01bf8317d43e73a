-- An answer for speed: a wrong count is refused sooner.
use Rattle.judged_lines.proofs.Common.{length, ap, FollowerState, lines_judged, all_judged_places}
use Rattle.judged_lines.proofs.follower.Follower.plays.Goals as goal

pub returns : goal.returns
returns c = let same = ap (λ (f : FollowerState). length (all_judged_places (lines_judged f))) c.self.view_is in cc (c.self.invariant.plays_are, same)
