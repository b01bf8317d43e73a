use Rattle.sgf_outline.proofs.Common.{length-drop, length, ap, ◌∙◌, rules, Property, Node, count-properties-held, taken-all}
use Rattle.sgf_outline.proofs.node.NodeRef.props.Goals as goal

pub count-requires-clause-fits : goal.count-requires-clause-fits
count-requires-clause-fits c = search (rules, count-properties-held, length-drop)

pub returns : goal.returns
returns c =
    let (taken, (gone, (end, all, (none, done))), count) = c.count.ensures.ran in
    count ∙ taken-all (λ (p : Property). p) c.iter.result taken end all none ∙ ap length c.iter.ensures
