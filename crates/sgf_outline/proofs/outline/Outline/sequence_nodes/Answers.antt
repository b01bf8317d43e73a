use Rattle.sgf_outline.proofs.Common.{◌<◌, [], ap, length, sym, subst, ◌∙◌, rules, sequence_starts, sequence_start, sequence_end, games_in, nodes_between}
use Rattle.sgf_outline.proofs.Traversing.{sequence-traversal}
use Rattle.sgf_outline.proofs.outline.Outline.sequence_nodes.Goals as goal

pub invariant_of-result : goal.invariant_of-result
invariant_of-result c =
    let s = c.self.inside in
    let traversal = sequence-traversal s.text.now s.sequences c.self.invariant.0 c.args.i c.index.result.now (subst (λ g. c.args.i < length (sequence_starts g)) (sym c.self.view_is) c.requires) c.index.ensures in
    search (rules, sequence-traversal)

pub returns : goal.returns
returns c =
    let s = c.self.inside in
    let traversal = sequence-traversal s.text.now s.sequences c.self.invariant.0 c.args.i c.index.result.now (subst (λ g. c.args.i < length (sequence_starts g)) (sym c.self.view_is) c.requires) c.index.ensures in
    rw (c.sequence_start.ensures, c.sequence_end.ensures.end)
    (ap (λ ps. record { properties = ps; nodes = nodes_between (games_in s.text.now) (sequence_start c.args.self.now c.args.i) (sequence_end c.args.self.now c.args.i) }) traversal.1
    ∙ ap (λ g. record { properties = []; nodes = nodes_between g (sequence_start c.args.self.now c.args.i) (sequence_end c.args.self.now c.args.i) }) c.self.view_is)
