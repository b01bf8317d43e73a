-- The path names a node, since the line has a sequence.
use Rattle.std.proofs.Common.{◌<◌, length, rules}
use Rattle.tree_lines.proofs.CursorStates.{line_is}
use Rattle.tree_lines.proofs.LineNodes.{as_long}
use Rattle.tree_lines.proofs.SequenceCursors.{some_end}
use Rattle.tree_lines.proofs.cursor.line_with.Goals as goal
use Rattle.tree_lines.proofs.cursor.line_with.Goals.{After-sequences-sequences}

some_node : (c : After-sequences-sequences) → 0 < length c.args.path.now
some_node c = search (rules, some_end, as_long)

pub invariant_of-result : goal.invariant_of-result
invariant_of-result c = record { some_node = some_node (goal.at.invariant_of-result c).After-sequences-sequences }

pub returns : goal.returns
returns c =
    line_is c.args.sequences.now.at _ c.requires.some (some_node (goal.at.returns c).After-sequences-sequences) c.requires.path c.game-game.ensures c.place-place.ensures
