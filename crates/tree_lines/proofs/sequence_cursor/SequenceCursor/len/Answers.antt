-- The line has as many nodes as are kept.
use Rattle.tree_lines.proofs.Common.{◌≡◌, length, ap, arith, rules, node_count, nodes_before}
use Rattle.tree_lines.proofs.SequenceCursors.{nodes_long, few_nodes, games_are}
use Rattle.tree_lines.proofs.sequence_cursor.SequenceCursor.len.Goals as goal

pub returns : goal.returns
returns c =
    let path = c.self.inside.path.items in
    let nodes : c.self.inside.nodes ≡ length (nodes_before c.args.self.now.at) = search (rules, nodes_long) in
    let few = few_nodes c.self.inside.outline.now c.self.inside.next path c.self.invariant.after c.args.self.now c.self.view_is in
    let games = games_are c.self.inside.outline.now c.self.inside.next path c.self.invariant.after c.args.self.now c.self.view_is in
    record { nodes = nodes; short = omega (arith, nodes, few); small = omega (arith, nodes, c.nodes-nodes.ensures.few, few, ap node_count games) }
