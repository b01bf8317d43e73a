-- An answer for speed: a wrong status is refused sooner.
use Rattle.std.proofs.Common.{rules}
use Rattle.sgfsplit.proofs.done.Goals as goal

pub returns : goal.returns
returns g c = search rules
