-- Each part is a sequence of the line.
use Rattle.std.proofs.Common.{arith}
use Rattle.tree_lines.proofs.SequenceCursors.{some_part, as_many_parts}
use Rattle.tree_lines.proofs.sequence_cursor.SequenceCursor.sequences.Goals as goal

pub returns-clause-some : goal.returns-clause-some
returns-clause-some c = λ some.
    omega (arith, some_part c.self.inside.outline.now c.self.inside.next c.self.inside.path.items c.self.invariant.after c.args.self.now c.self.view_is some, as_many_parts c.self.inside.outline.now c.self.inside.next c.self.inside.path.items c.self.invariant.after c.args.self.now c.self.view_is, c.len.ensures, c.self.inside.path.ok.0)
