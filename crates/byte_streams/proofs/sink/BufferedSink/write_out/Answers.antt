-- The writer was handed all that was held back, or a front of it.
use Rattle.std.proofs.Common.{take, arith, length-drop}
use Rattle.std.proofs.lemmas.Grind.{common_steps}
use Rattle.byte_streams.proofs.SliceStreams.{goes_on, handed_on, all_handed_on}
use Rattle.byte_streams.proofs.sink.BufferedSink.write_out.Goals as goal

pub writes-preserved : goal.writes-preserved
writes-preserved g c = grind (arith, common_steps, goes_on, length-drop)

pub returns-in-Ok-eq0-clause-out : goal.returns-in-Ok-eq0-clause-out
returns-in-Ok-eq0-clause-out g c = grind (arith, common_steps, handed_on)

pub returns-clause-out : goal.returns-clause-out
returns-clause-out g c =
    let s = c.args.self.now in
    let old = c.writes.invariant in
    let front = rw old.buffer at old.written in
    let all = all_handed_on (g.W.Write.contents s.writer) (g.W.Write.contents c.writes.self.writer) s.buffer.items c.clear.new.self.items s.handed c.writes.handed
    (s.whole c.requires.never_failed) (rw (← old.buffer) (omega (arith, c.writes-test.false, c.len.ensures))) c.clear.ensures.items front in
    record {
      never_failed = c.requires.never_failed;
      failures = old.failures;
      taken = rw old.unhanded all.0;
      grows = (take c.writes.handed s.buffer.items, front);
      delivered = rw old.unhanded all.1;
    }
