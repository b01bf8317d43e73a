-- A front of what is held back is written.
use Rattle.std.proofs.Common.{length, take, ◌-◌, ◌≡◌, ◌≤◌}
use Rattle.std.specs.Io.KnownBytes.{Appends}
use Rattle.byte_streams.proofs.sink.BufferedSink.write_out.Given as goal

abbrev pub invariant-writes : goal.invariant-writes
invariant-writes g l = record {
  within : l.handed ≤ length l.self.buffer.items;
  written : Appends (g.W.Write.contents l.initial.self.writer) (g.W.Write.contents l.self.writer) (take l.handed l.self.buffer.items);
  buffer : l.self.buffer ≡ l.initial.self.buffer;
  unhanded : l.self.handed ≡ l.initial.self.handed;
  failures : l.self.failures ≡ l.initial.self.failures;
}

abbrev pub decreases-writes : goal.decreases-writes
decreases-writes g l = length l.self.buffer.items - l.handed
