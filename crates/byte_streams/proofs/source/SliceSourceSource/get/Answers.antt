-- The bytes are the next of the slice.
use Rattle.std.proofs.Common.{◌+◌, ◌-◌, drop, length, arith}
use Rattle.byte_streams.proofs.SliceStreams.{slice_gives}
use Rattle.byte_streams.proofs.source.SliceSourceSource.get.Goals as goal

pub returns-clause-gets : goal.returns-clause-gets
returns-clause-gets c =
    let s = c.args.self.now in
    let n = c.min-count.result in
    slice_gives s.bytes.now c.copy_from_slice.new.self (drop n c.args.buffer.now) s.given n (s.given + n - s.given) (length c.args.buffer.now) (omega arith)
    c.copy_from_slice.ensures.after (omega arith) (omega arith) c.requires.room
