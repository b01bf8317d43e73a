use Rattle.sgf_outline.proofs.Common.{◌≤◌, length, take_rest, arith, rules, kept-drop}
use Rattle.sgf_outline.proofs.Outlined.{node-in}
use Rattle.sgf_outline.proofs.outline.Outline.node_at.Goals as goal

pub slice_bounds-result-start : goal.slice_bounds-result-start
slice_bounds-result-start c =
    let s = c.self.inside in
    omega (arith, (node-in s.text.now s.sequences c.self.invariant.0 c.args.self.now c.self.view_is c.requires.0 c.args.place c.requires.1).2)

pub slice_bounds-result-count : goal.slice_bounds-result-count
slice_bounds-result-count c =
    let s = c.self.inside in
    omega (arith, (node-in s.text.now s.sequences c.self.invariant.0 c.args.self.now c.self.view_is c.requires.0 c.args.place c.requires.1).2)

pub invariant_of-result : goal.invariant_of-result
invariant_of-result c =
    let s = c.self.inside in
    let node = node-in s.text.now s.sequences c.self.invariant.0 c.args.self.now c.self.view_is c.requires.0 c.args.place c.requires.1 in
    let within : c.args.place ≤ length s.text.now = omega (arith, node.2) in
    rw (take_rest s.text.now c.args.place) (node.1, kept-drop s.text.now c.args.place _ within c.self.invariant.1)

pub returns : goal.returns
returns c i at = rw (take_rest c.self.inside.text.now c.args.place) (search (rules, node-in))
