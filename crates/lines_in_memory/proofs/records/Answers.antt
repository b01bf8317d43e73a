-- The vector was empty at first, and the source had the whole text to come.
use Rattle.std.proofs.Common.{Some, sym, ap, ◌∙◌}
use Rattle.byte_streams.specs.Streams.{SourceState, SinkState}
use Rattle.lines_in_memory.proofs.InMemory.{in_memory}
use Rattle.lines_in_memory.proofs.records.Goals as goal

pub returns : goal.returns
returns c =
    in_memory c.args.options.now c.args.text.now c.into_inner.result.items _ _ _ _ _ (ap (λ (s : SourceState). s.to_come) c.new-source.ensures)
    (ap (λ (s : SinkState). s.taken) c.new-sink.ensures ∙ ap Some c.new.ensures.items) (sym c.into_inner.ensures) c.in_ok-split.ensures.runs
