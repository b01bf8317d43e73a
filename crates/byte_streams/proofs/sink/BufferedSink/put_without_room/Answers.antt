-- The writer was handed what was held back, and then bytes that are longer than all that can be held; or bytes are held back.
use Rattle.std.proofs.Common.{◌++◌, take, drop, sym, ap, ◌∙◌, subst, arith, rules}
use Rattle.std.specs.Io.KnownBytes.{Appends, append_known}
use Rattle.std.proofs.KnownBytes.{Appends-trans}
use Rattle.byte_streams.proofs.SliceStreams.{held_more}
use Rattle.byte_streams.proofs.sink.BufferedSink.put_without_room.Goals as goal

pub returns-in-Ok : goal.returns-in-Ok
returns-in-Ok g c =
    let old = g.W.Write.contents c.args.self.now.writer in
    let now = g.W.Write.contents c.write_out.new.self.writer in
    let new = g.W.Write.contents c.write.new.self in
    let more = take c.in-Ok.count c.args.bytes.now in
    let out = c.in_ok-write_out.ensures.out in
    let wrote : Appends now new more = search rules in (
      search rules,
      search rules,
      record {
        never_failed = c.requires.never_failed;
        failures = search rules;
        taken = search rules;
        grows = (out.grows.0 ++ more, Appends-trans old now new out.grows.0 more out.grows.1 wrote);
      },
    )

pub returns-then-bytes-le-CAPACITY : goal.returns-then-bytes-le-CAPACITY
returns-then-bytes-le-CAPACITY g c =
    let old = c.args.self.now in
    let now = c.write_out.new.self in
    let new = c.hold.new.self in
    let held = c.hold.ensures in
    let contents = g.W.Write.contents in
    let out = c.in_ok-write_out.ensures.out in
    let same = ap contents held.writer in (
      c.requires.some,
      omega arith,
      record {
        never_failed = c.requires.never_failed;
        failures = held.failures ∙ sym c.requires.never_failed;
        taken = held_more (append_known (contents old.writer) (drop old.handed old.buffer.items)) (contents now.writer) (contents new.writer) now.buffer.items new.buffer.items c.args.bytes.now now.handed new.handed
            out.taken c.in_ok-write_out.ensures.empty held.buffer (new.whole held.failures) same;
        grows = (out.grows.0, subst (λ w. Appends (contents old.writer) w out.grows.0) (sym same) out.grows.1);
      },
    )
