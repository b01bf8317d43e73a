-- What happens when a job is done: the bytes read and written, the status, and the row on standard error.
use Rattle.std.specs.Prelude.{◌≡◌, ◌⊎◌, ℕ, ◌+◌, Bool, true, false, List, ◌++◌, Option, Some, None, Result, Ok, Err, String}
use Rattle.std.specs.declared.alloc.Global.{Global}
use Rattle.std.specs.Result.{result_err}
use Rattle.std.specs.Io.KnownBytes.{Appends}
use Rattle.clap.specs.declared.error.kind.ErrorKind.{ErrorKind}
use Rattle.clap.specs.declared.error.kind.ErrorKind.TheVariants.{DisplayHelp, DisplayVersion}
use Rattle.byte_streams.specs.Streams.{SinkState, SourceState, Delivers, HasDelivered, TakesNothing}
use Rattle.sgf_lines.specs.Answer.{IsRun, reads_failed, writes_failed}
use Rattle.sgf_lines.specs.Counts.{IsCount, IsWriting, counts_row}
use Rattle.sgf_lines.specs.declared.counting.Counts.{Counts}
use Rattle.sgf_lines.specs.declared.fault.RunFault.{RunFault}
use Rattle.sgf_lines.specs.declared.fault.RunFault.TheVariants.{Write, Memory}
use Rattle.sgfsplit_job.specs.Fault.{fault_row, status_of}
use Rattle.sgfsplit_job.specs.declared.fault.Fault.{Fault}
use Rattle.sgfsplit_job.specs.declared.fault.Fault.TheVariants.{Run}
use Rattle.sgfsplit_job.specs.declared.jobs.Job.{Job}
use Rattle.sgfsplit_job.specs.declared.jobs.Job.TheVariants.{Split, Count}

-- If the counting succeeded, the counts were written, and `fault` is that of the writing, if the writing
-- failed. If the counting failed, `fault` is that of the counting, and nothing was written.
abbrev pub WritesCounts : Result Counts RunFault → SinkState → SinkState → Option RunFault → Type 0
WritesCounts (Ok counts) output new_output fault =
    (written : Result (Unit {0}) RunFault) × IsWriting (counts_row counts) output new_output written × (fault ≡ result_err written)
WritesCounts (Err met) output new_output fault = (new_output ≡ output) × (fault ≡ Some met)

-- A job was done over a source and a sink, to its end or up to a fault. The job `Split`
-- makes a run with its options. The job `Count` counts, and writes the counts.
abbrev pub DoesJob : Job → SourceState → SourceState → SinkState → SinkState → Option RunFault → Type 0
DoesJob (Split options file) source new_source output new_output fault =
    (result : Result ℕ RunFault) × IsRun options source new_source output new_output result × (fault ≡ result_err result)
DoesJob (Count file) source new_source output new_output fault =
    (counted : Result Counts RunFault) × IsCount source new_source counted × WritesCounts counted output new_output fault

-- a sink was asked to flush: it delivered all that it had taken, or it failed
abbrev pub FlushesAnyway : SinkState → SinkState → Type 0
FlushesAnyway old new = Delivers old new ⊎ TakesNothing old new

-- after refused memory the sink was asked to flush; after another fault, or none, it is unchanged
abbrev pub FlushesAfter : Option RunFault → SinkState → SinkState → Type 0
FlushesAfter (Some (Memory lines)) old new = FlushesAnyway old new
FlushesAfter _ old new = new ≡ old

-- true: a sink took the whole text and delivered it; false: it took a prefix of the text, perhaps all of it, and then failed
abbrev pub TakesText : List ℕ → SinkState → SinkState → Bool → Type 0
TakesText text old new true = Appends old.taken new.taken text × (new.failures ≡ old.failures) × HasDelivered new
TakesText text old new false =
    (front : List ℕ) × (rest : List ℕ) × (text ≡ front ++ rest) × Appends old.taken new.taken front × (new.failures ≡ old.failures + 1)

-- A fault was reported: the status is that of the fault. The sink for faults took the fault's row, or failed.
pub record Tells (fault : Fault) (old new : SinkState) (status : ℕ) : Type 0 where
  pub status_is : status ≡ status_of fault
  pub row : (whole : Bool) × TakesText (fault_row fault) old new whole

-- The end of a job was reported. Without a fault the status is 0, and no row was written.
abbrev pub TellsEnd : Option RunFault → SinkState → SinkState → ℕ → Type 0
TellsEnd None old new status = (status ≡ 0) × (new ≡ old)
TellsEnd (Some fault) old new status = Tells (Run fault) old new status

-- A job was done: what it read and wrote, and how its end was reported. With status 0 all that it wrote was delivered.
-- `written` is the output before the flush that follows refused memory. A source or a sink that has failed fails at every
-- later call, and counts each failure. So a count that rises by one says that no call followed the first failure.
pub record IsAct (job : Job) (source new_source : SourceState) (output new_output faults new_faults : SinkState) (status : ℕ) : Type 0 where
  pub fault : Option RunFault
  pub written : SinkState
  pub does : DoesJob job source new_source output written fault
  pub reads : new_source.failures ≡ source.failures + reads_failed fault
  pub writes : written.failures ≡ output.failures + writes_failed fault
  pub flushes : FlushesAfter fault written new_output
  pub tells : TellsEnd fault faults new_faults status
  pub delivers : status ≡ 0 → HasDelivered new_output

-- The output took the help and delivered it, and the status is 0. Or the output failed, which was reported as a failed write.
abbrev pub ShowsHelp : List ℕ → SinkState → SinkState → SinkState → SinkState → ℕ → Type 0
ShowsHelp text output new_output faults new_faults status =
    (TakesText text output new_output true × (new_faults ≡ faults) × (status ≡ 0))
    ⊎ (TakesText text output new_output false × Tells (Run (Write 0)) faults new_faults status)

-- the sink for faults took the text of a mistake, or failed; the status is 2 in both cases
abbrev pub ShowsMistake : List ℕ → SinkState → SinkState → SinkState → SinkState → ℕ → Type 0
ShowsMistake text output new_output faults new_faults status =
    (whole : Bool) × TakesText text faults new_faults whole × (new_output ≡ output) × (status ≡ 2)

-- help and the version are shown as help; all other kinds are mistakes
abbrev pub ShowsText : ErrorKind → List ℕ → SinkState → SinkState → SinkState → SinkState → ℕ → Type 0
ShowsText DisplayHelp text output new_output faults new_faults status = ShowsHelp text output new_output faults new_faults status
ShowsText DisplayVersion text output new_output faults new_faults status = ShowsHelp text output new_output faults new_faults status
ShowsText _ text output new_output faults new_faults status = ShowsMistake text output new_output faults new_faults status

-- Clap's text was shown, as the kind of the error requires. Or memory for the text was refused, which was reported.
abbrev pub Shows : ErrorKind → SinkState → SinkState → SinkState → SinkState → ℕ → Type 0
Shows kind output new_output faults new_faults status =
    ((text : List ℕ) × ShowsText kind text output new_output faults new_faults status)
    ⊎ ((new_output ≡ output) × Tells (Run (Memory 0)) faults new_faults status)

-- the file that a job names; None for standard input
abbrev pub job_file : Job → Option (String Global)
job_file (Split options file) = file
job_file (Count file) = file
