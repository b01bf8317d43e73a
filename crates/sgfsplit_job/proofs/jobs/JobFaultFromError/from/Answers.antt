use Rattle.std.proofs.Common.{rules}
use Rattle.sgfsplit_job.proofs.jobs.JobFaultFromError.from.Goals as goal

-- written out though the prover needs no help: it then refuses a wrong body sooner
pub returns-in-OutOfMemory : goal.returns-in-OutOfMemory
returns-in-OutOfMemory c = search rules
