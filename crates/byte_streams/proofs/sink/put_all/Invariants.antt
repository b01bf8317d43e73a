-- A front of the bytes was taken, and the sink hasn't failed.
use Rattle.std.proofs.Common.{length, take, ◌-◌, ◌≡◌, ◌≤◌}
use Rattle.std.specs.Io.KnownBytes.{Appends}
use Rattle.byte_streams.proofs.sink.put_all.Given as goal

abbrev pub invariant-puts : goal.invariant-puts
invariant-puts g l = record {
  within : l.done ≤ length l.bytes;
  takes : Appends (g.T.Sink.state l.initial.sink).taken (g.T.Sink.state l.sink).taken (take l.done l.bytes);
  failures : (g.T.Sink.state l.sink).failures ≡ (g.T.Sink.state l.initial.sink).failures;
}

abbrev pub decreases-puts : goal.decreases-puts
decreases-puts g l = length l.bytes - l.done
