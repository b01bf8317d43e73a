-- What clap would show was shown. A plain search fails soon where the status is wrong.
use Rattle.std.proofs.Common.{rules}
use Rattle.sgfsplit_job.proofs.acts.show.Goals as goal

pub returns-then-is_ok : goal.returns-then-is_ok
returns-then-is_ok g c = search rules

pub returns : goal.returns
returns g c = search rules
