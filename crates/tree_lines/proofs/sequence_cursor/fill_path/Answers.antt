-- One step up the way writes one sequence more.
use Rattle.std.proofs.Common.{arith}
use Rattle.tree_lines.proofs.SequenceClimbing.{room_for, filled}
use Rattle.tree_lines.proofs.sequence_cursor.fill_path.Goals as goal

pub overflow_sub-room : goal.overflow_sub-room
overflow_sub-room c =
    let at = room_for c.args.outline.now c.args.last c.in-Some.number c.loop-sequence.room c.loop-sequence.path c.loop-sequence.sequence c.loop-sequence.invariant c.in-Some.is in
    omega (arith, at.some_room)

pub returns : goal.returns
returns c = filled c.args.outline.now c.args.last c.args.line c.loop-sequence.room c.loop-sequence.path c.loop-sequence.sequence c.requires.measured c.loop-sequence.invariant c.in_default.is
