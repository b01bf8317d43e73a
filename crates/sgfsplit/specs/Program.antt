-- How the program ends, given the words of its command line.
use Rattle.std.specs.Prelude.{◌≡◌, ◌⊎◌, ℕ, List, Option, None, IsSome}
use Rattle.byte_streams.specs.Streams.{SourceState, SinkState}
use Rattle.clap.specs.declared.error.kind.ErrorKind.{ErrorKind}
use Rattle.sgfsplit_job.specs.Act.{IsAct, Shows, job_file}
use Rattle.sgfsplit_job.specs.CommandLine.{AreFaultless, HasFault}
use Rattle.sgfsplit_job.specs.declared.jobs.Job.{Job}

-- the state of a new source over a reader that has these bytes to come
abbrev pub fresh_source : Option (List ℕ) → SourceState
fresh_source remaining = record { failures = 0; given = None; to_come = remaining }

-- the state of a new sink over a standard stream; contracts say nothing of the bytes of such a stream
abbrev pub fresh_stream : SinkState
fresh_stream = record { failures = 0; taken = None; delivered = None }

-- The job was done over a reader with these bytes to come, and ended with the
-- status. Or the status is 4, because memory was refused before the job began.
abbrev pub IsStatusOf : Job → Option (List ℕ) → ℕ → Type 0
IsStatusOf job remaining status =
    ((source : SourceState) × (output : SinkState) × (faults : SinkState) × IsAct job (fresh_source remaining) source fresh_stream output fresh_stream faults status)
    ⊎ (status ≡ 4)

-- The job ended with the status, over some reader. Or the status is 3, because the file that the job names wasn't opened.
abbrev pub EndsJob : Job → ℕ → Type 0
EndsJob job status = ((remaining : Option (List ℕ)) × IsStatusOf job remaining status) ⊎ (IsSome (job_file job) × (status ≡ 3))

-- A job of which IsAsked holds ended with the status. Or the status is 4, because memory was refused before there was a job.
abbrev pub EndsOneOf : (Job → Type 0) → ℕ → Type 0
EndsOneOf IsAsked status = ((job : Job) × IsAsked job × EndsJob job status) ⊎ (status ≡ 4)

-- clap's text was shown on the standard streams, as the kind of the error requires
abbrev pub IsShown : ErrorKind → ℕ → Type 0
IsShown kind status = (output : SinkState) × (faults : SinkState) × Shows kind fresh_stream output fresh_stream faults status

-- One of three things happened. The words have no fault, and a job ended with the status. Or the words have a fault,
-- and clap's text was shown for that kind of fault. Or the status is 4, because memory was refused before either.
abbrev pub Ends : List (List ℕ) → ℕ → Type 0
Ends words status =
    ((job : Job) × AreFaultless words × EndsJob job status) ⊎ ((kind : ErrorKind) × HasFault words kind × IsShown kind status) ⊎ (status ≡ 4)
