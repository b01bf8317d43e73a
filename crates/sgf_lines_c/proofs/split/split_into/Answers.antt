-- The vector was empty at first, and the source had the whole text to come.
use Rattle.std.proofs.Common.{Some, sym, ap, ◌∙◌}
use Rattle.byte_streams.specs.Streams.{SourceState, SinkState}
use Rattle.sgf_lines_c.proofs.InMemory.{run_refused, taken_in_memory}
use Rattle.sgf_lines_c.proofs.split.split_into.Goals as goal

pub returns-in-Ok : goal.returns-in-Ok
returns-in-Ok c =
    c.put.ensures c.args.options.now c.args.text.now
    (taken_in_memory c.args.options.now c.args.text.now c.deref.result.now _ _ _ _ c.in-Ok.lines (ap (λ (s : SourceState). s.to_come) c.new-source.ensures)
    (ap (λ (s : SinkState). s.taken) c.new-sink.ensures ∙ ap Some c.new.ensures.items) (sym c.into_inner.ensures ∙ ap Some (sym c.deref.ensures.value))
    c.in-Ok.ensures.runs)

pub returns-in-Err : goal.returns-in-Err
returns-in-Err c =
    rw c.refused.ensures (run_refused c.args.options.now c.args.text.now c.args.room.now _ _ _ _ c.in-Err.fault (ap (λ (s : SourceState). s.to_come) c.new-source.ensures) c.in-Err.ensures.runs)
