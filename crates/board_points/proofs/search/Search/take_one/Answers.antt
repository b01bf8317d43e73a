use Rattle.board_points.proofs.Common.{rules}
use Rattle.board_points.proofs.search.Search.take_one.Goals as goal

-- only there for speed
pub returns-then-self-eq0-clause-none_waits : goal.returns-then-self-eq0-clause-none_waits
returns-then-self-eq0-clause-none_waits c = search rules
