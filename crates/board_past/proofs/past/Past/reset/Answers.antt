use Rattle.std.proofs.Common.{rules}
use Rattle.board_past.proofs.past.Past.reset.Goals as goal

-- by a search, since a term would name a step that a wrong body doesn't have
pub returns-clause-ok : goal.returns-clause-ok
returns-clause-ok g c = search rules
