use Rattle.sgf_outline.proofs.Common.{◌≡◌, ◌∙◌, ap, arith, append_assoc, common_steps, length, rules, take, take_at}
use Rattle.sgf_properties.proofs.GoingOn.{goes_on_on}
use Rattle.sgf_outline.proofs.node.NodeRef.push_to.Goals as goal

pub loop-property-preserved : goal.loop-property-preserved
loop-property-preserved c = record {
  appended = grind (arith, append_assoc);
  goes_on = grind (arith, common_steps, goes_on_on);
}

pub returns-then-is_err-clause-unchanged : goal.returns-then-is_err-clause-unchanged
returns-then-is_err-clause-unchanged c =
    let same : c.push_property.new.out.items ≡ c.loop-property.out.items = search rules in
    let count : length c.args.out.now.items ≡ c.len-before.result = omega (arith, c.len-before.ensures, c.args.out.now.ok.0) in
    c.truncate.ensures.items ∙ ap (take c.len-before.result) (same ∙ c.loop-property.invariant.goes_on.1) ∙ take_at _ _ _ count
