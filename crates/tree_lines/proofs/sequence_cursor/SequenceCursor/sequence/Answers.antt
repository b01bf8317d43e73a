-- Each part is a sequence of the line.
use Rattle.std.proofs.Common.{◌≡◌, slice_get, Some}
use Rattle.tree_lines.proofs.SequenceCursors.{games_are, part_there, part_within_all}
use Rattle.tree_lines.proofs.sequence_cursor.SequenceCursor.sequence.Goals as goal
use Rattle.tree_lines.proofs.sequence_cursor.SequenceCursor.sequence.Goals.{After-index}

-- the part at that index
there : (c : After-index) → slice_get c.self.inside.path.items c.args.index ≡ Some c.index.result.now
there c = part_there c.self.inside.outline.now c.self.inside.next c.self.inside.path.items c.self.invariant.after c.args.self.now c.self.view_is c.args.index c.index.result.now c.requires c.index.ensures

pub returns-clause-within : goal.returns-clause-within
returns-clause-within c =
    rw (← games_are c.self.inside.outline.now c.self.inside.next c.self.inside.path.items c.self.invariant.after c.args.self.now c.self.view_is)
    (part_within_all c.self.inside.outline.now c.self.inside.next c.self.inside.path.items c.self.invariant.after c.args.self.now c.self.view_is c.args.index c.index.result.now (there (goal.at.returns-clause-within c).After-index))
