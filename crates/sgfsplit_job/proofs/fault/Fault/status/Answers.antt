use Rattle.std.proofs.Common.{rules}
use Rattle.sgfsplit_job.proofs.fault.Fault.status.Goals as goal

-- written out though the prover needs no help: it then refuses a wrong body sooner
pub returns-in-Run-Memory : goal.returns-in-Run-Memory
returns-in-Run-Memory c = search rules
