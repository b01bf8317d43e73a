use Rattle.sgf_outline.proofs.Common.{ap, slice_get, ◌∙◌, sym, Property, taken-at}
use Rattle.sgf_outline.proofs.node.NodeRef.prop.Goals as goal

pub returns : goal.returns
returns c =
    ap (λ ps. slice_get ps c.args.i) (sym c.iter.ensures) ∙ taken-at (λ (p : Property). p) c.iter.result c.args.i c.nth.result c.nth.new.self c.unwrap.result c.nth.ensures.ran c.unwrap.ensures
