use Rattle.sgf_properties.proofs.Common.{◌∙◌, sym, take_rest}
use Rattle.sgf_properties.proofs.KeptLengths.{kept-drop}
use Rattle.sgf_properties.proofs.Iterating.{no-property}
use Rattle.sgf_properties.proofs.iter.PropertiesIterator.next.Goals as goal

pub returns-then-not-capital_at-clause-steps : goal.returns-then-not-capital_at-clause-steps
returns-then-not-capital_at-clause-steps c =
    let white = c.skip_white_space-start in
    let none = sym c.self.view_is ∙ no-property c.self.inside.rest.now white.result white.ensures c.self.invariant.0 (c.capital_at.ensures.other c.if-not-capital_at.true) in
    (none, none)

pub invariant_of-self : goal.invariant_of-self
invariant_of-self c =
    let at = c.property_at-property.ensures in
    rw (take_rest c.self.inside.rest.now _) (at.left, kept-drop _ _ _ at.within c.self.invariant.1)
