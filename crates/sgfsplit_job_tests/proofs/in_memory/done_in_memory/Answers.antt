-- The vector was empty at first, and the source had the whole text to come.
use Rattle.std.proofs.Common.{[], ◌++◌, Some, sym, ap, ◌∙◌}
use Rattle.byte_streams.specs.Streams.{SourceState, SinkState}
use Rattle.sgfsplit_job_tests.proofs.InMemory.{has_written}
use Rattle.sgfsplit_job_tests.proofs.in_memory.done_in_memory.Goals as goal

pub returns : goal.returns
returns c =
    has_written c.args.job.now c.args.text.now c.into_inner-written.result.items _ _ _ _ _ _ c.act-status.result (ap (λ (s : SourceState). s.to_come) c.new-source.ensures)
    (ap (λ (s : SinkState). s.taken) c.in_ok-output.ensures ∙ ap (λ xs. Some (xs ++ [])) c.new.ensures.items) (sym c.into_inner-written.ensures) c.act-status.ensures
