use Rattle.tree_lines.proofs.Common.{◌++◌, length, take, drop, arith, rules, common_steps, IsWayTo}
use Rattle.tree_lines.proofs.SequenceCursors.{games_are, kept_sought}
use Rattle.tree_lines.proofs.sequence_cursor.SequenceCursor.seek_end.Goals as goal

pub invariant_of-self-2 : goal.invariant_of-self-2
invariant_of-self-2 c =
    let made = take c.resize.new.self.len (c.fill_path.new.path ++ drop (length c.fill_path.new.path) c.resize.new.self.items) in
    let way : IsWayTo c.self.inside.outline.now c.args.sequence made c.measure-line.result.nodes = grind (arith, common_steps) in
    kept_sought c.self.inside.outline.now c.self.inside.next c.self.inside.path.items c.self.invariant.after c.args.self.now c.self.view_is
    c.args.sequence c.measure-line.result.nodes made c.requires.within c.requires.is_leaf way

pub returns-clause-sought : goal.returns-clause-sought
returns-clause-sought c = search (rules, games_are)
