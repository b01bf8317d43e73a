-- What follows from a job whose source is a text in memory and whose output is an empty vector.
use Rattle.std.proofs.Common.{◌≡◌, ℕ, List, [], ◌++◌, Option, Some, None, Result, Ok, Err, sym, ap, ◌∙◌, arith, append-nil}
use Rattle.std.specs.Result.{result_err}
use Rattle.std.specs.Io.KnownBytes.{Appends, Keeps, Consumes, IsAtEnd}
use Rattle.sgf_outline.specs.Tree.{Games}
use Rattle.sgf_outline.specs.Spelling.{Spells}
use Rattle.tree_lines.specs.Lines.{Line}
use Rattle.sgf_lines.specs.Record.{output}
use Rattle.byte_streams.specs.Streams.{SourceState, SinkState}
use Rattle.sgf_lines.specs.Answer.{HasPage, IsRun}
use Rattle.sgf_lines.specs.Counts.{IsCount, IsWriting, counts_of, counts_row}
use Rattle.sgf_lines.specs.declared.counting.Counts.{Counts}
use Rattle.sgf_lines.specs.declared.options.Options.{Options}
use Rattle.sgf_lines.specs.declared.fault.RunFault.{RunFault}
use Rattle.sgf_lines.specs.declared.fault.RunFault.TheVariants.{Read, TooLong, NotSgf, NoSuchLine, Write, Memory}
use Rattle.sgfsplit_job.specs.Act.{IsAct, DoesJob, FlushesAfter, TellsEnd, WritesCounts}
use Rattle.sgfsplit_job.specs.Fault.{status_of}
use Rattle.sgfsplit_job.specs.declared.fault.Fault.TheVariants.{Run}
use Rattle.sgfsplit_job.specs.declared.jobs.Job.{Job}
use Rattle.sgfsplit_job.specs.declared.jobs.Job.TheVariants.{Split, Count}
use Rattle.sgfsplit_job_tests.specs.InMemory.{HasWritten}

whole_text : (text : List ℕ) (left : Option (List ℕ)) (given : List ℕ) → Consumes (Some text) left given → IsAtEnd left → given ≡ text
whole_text text None given h end = absurd h
whole_text text (Some ys) given h end = sym (h ∙ ap (λ bs. given ++ bs) end ∙ append-nil given)

-- a vector that was empty and has delivered all holds what it took
all_held : (taken : Option (List ℕ)) (items bytes : List ℕ) → Appends (Some []) taken bytes → Keeps (Some items) taken → items ≡ bytes
all_held None items bytes takes kept = absurd takes
all_held (Some xs) items bytes takes kept = sym kept ∙ takes

-- a run without a fault wrote the records of the page
of_run : (options : Options) (text items : List ℕ) (source new_source : SourceState) (sink new_sink : SinkState) (result : Result ℕ RunFault) → source.to_come ≡ Some text → sink.taken ≡ Some []
    → new_sink.delivered ≡ Some items → IsRun options source new_source sink new_sink result → None ≡ result_err result
    → (page : List Line) × HasPage options text page × (items ≡ output options.form page)
of_run options text items source new_source sink new_sink (Ok k) starts empty holds h none =
    let consumes : Consumes (Some text) new_source.to_come h.given = rw starts at h.consumes in
    let a = h.answers in
    let all = whole_text text new_source.to_come h.given consumes a.1.whole.at_end in
    let takes : Appends (Some []) new_sink.taken (output options.form a.0) = rw empty at a.2 in
    let kept : Keeps (Some items) new_sink.taken = rw holds at a.4 in
    (a.0, rw all at a.1.has_page, all_held new_sink.taken items (output options.form a.0) takes kept)
of_run options text items source new_source sink new_sink (Err fault) starts empty holds h none = absurd (cc)

-- a count without a fault wrote the row of the text's counts
of_count : (text items : List ℕ) (source new_source : SourceState) (sink new_sink : SinkState) (counted : Result Counts RunFault) → source.to_come ≡ Some text → sink.taken ≡ Some []
    → new_sink.delivered ≡ Some items → IsCount source new_source counted → WritesCounts counted sink new_sink None
    → (games : Games) × Spells games text × (items ≡ counts_row (counts_of games))
of_count text items source new_source sink new_sink (Err fault) starts empty holds h wrote = absurd (let none = wrote.1 in cc)
of_count text items source new_source sink new_sink (Ok counts) starts empty holds h wrote = by wrote.0 wrote.1 wrote.2
  where
    by : (written : Result (Unit {0}) RunFault) → IsWriting (counts_row counts) sink new_sink written → None ≡ result_err written → (games : Games) × Spells games text × (items ≡ counts_row (counts_of games))
    by (Err fault) w none = absurd (cc)
    by (Ok u) w none =
        let consumes : Consumes (Some text) new_source.to_come h.given = rw starts at h.consumes in
        let all = whole_text text new_source.to_come h.given consumes h.answers.0.at_end in
        let games = h.answers.1 in
        let takes : Appends (Some []) new_sink.taken (counts_row counts) = rw empty at w.answers.0 in
        let kept : Keeps (Some items) new_sink.taken = rw holds at w.answers.1 in
        (games.0, rw all at games.1, all_held new_sink.taken items (counts_row counts) takes kept ∙ ap counts_row games.2)

-- no fault has status 0
not_zero : (fault : RunFault) → status_of (Run fault) ≡ 0 → ⊥
not_zero Read e = absurd (omega (arith, e))
not_zero TooLong e = absurd (omega (arith, e))
not_zero (NotSgf at len) e = absurd (omega (arith, e))
not_zero (NoSuchLine place) e = absurd (omega (arith, e))
not_zero (Write lines) e = absurd (omega (arith, e))
not_zero (Memory lines) e = absurd (omega (arith, e))

-- a job that ended with status 0 has written all that was asked for
pub has_written : (job : Job) (text items : List ℕ) (source new_source : SourceState) (output new_output faults new_faults : SinkState) (status : ℕ) → source.to_come ≡ Some text
    → output.taken ≡ Some [] → new_output.delivered ≡ Some items → IsAct job source new_source output new_output faults new_faults status → HasWritten job text status items
has_written job text items source new_source output new_output faults new_faults status starts empty holds h = by h.fault h.does h.flushes h.tells
  where
    asked : (j : Job) → DoesJob j source new_source output h.written None → new_output ≡ h.written → HasWritten j text status items
    asked (Split options file) d same = λ zero. of_run options text items source new_source output h.written d.0 starts empty (ap (λ (s : SinkState). s.delivered) (sym same) ∙ holds) d.1 d.2
    asked (Count file) d same = λ zero. of_count text items source new_source output h.written d.0 starts empty (ap (λ (s : SinkState). s.delivered) (sym same) ∙ holds) d.1 d.2

    not_asked : (j : Job) (fault : RunFault) → status ≡ status_of (Run fault) → HasWritten j text status items
    not_asked (Split options file) fault is = λ zero. absurd (not_zero fault (sym is ∙ zero))
    not_asked (Count file) fault is = λ zero. absurd (not_zero fault (sym is ∙ zero))

    by : (fault : Option RunFault) → DoesJob job source new_source output h.written fault → FlushesAfter fault h.written new_output
        → TellsEnd fault faults new_faults status → HasWritten job text status items
    by None d f t = asked job d f
    by (Some fault) d f t = not_asked job fault t.status_is
