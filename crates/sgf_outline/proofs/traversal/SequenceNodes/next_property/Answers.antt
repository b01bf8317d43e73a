use Rattle.sgf_outline.proofs.Common.{◌≡◌, ◌-◌, ◌∙◌, ◌∷◌, drop, refl, sym, ap, subst, take_rest, arith, common_steps, properties_in, IsSpan, is_white_space, kept-drop, no-property, run-drop}
use Rattle.sgf_outline.proofs.Traversing.{past-property}
use Rattle.sgf_outline.proofs.traversal.SequenceNodes.next_property.Goals as goal

pub returns-then-not-capital_at : goal.returns-then-not-capital_at
returns-then-not-capital_at c =
    let w = c.self.inside in
    let none : w.at - w.at ≡ 0 = omega arith in
    let other = rw (take_rest w.text.now w.at) at (c.capital_at.ensures.other c.if-not-capital_at.true) in (
      ap (λ n. n.properties) (sym c.self.view_is)
          ∙ no-property (drop w.at w.text.now) 0 (subst (IsSpan is_white_space (drop w.at w.text.now) 0) none (run-drop is_white_space w.text.now w.at w.at c.self.invariant.0.stands)) c.self.invariant.0.left.held other,
      refl,
    )

pub property_at-property-requires-clause-kept : goal.property_at-property-requires-clause-kept
property_at-property-requires-clause-kept c = rw (take_rest c.self.inside.text.now c.self.inside.at) (kept-drop c.self.inside.text.now c.self.inside.at _ c.self.invariant.0.stands.within c.self.invariant.1)

pub invariant_of-self : goal.invariant_of-self
invariant_of-self c = grind (arith, common_steps, take_rest, past-property)

pub returns : goal.returns
returns c =
    let w = c.self.inside in
    let is = c.property_at-property.ensures in
    let past = past-property w.text.now w.at w.number w.end c.self.invariant.0 _ (take_rest w.text.now w.at) c.property_at-property.result.1 c.skip_white_space-self-inside.result
    is.spelled.0 is.spelled.1 is.left c.skip_white_space-self-inside.ensures in (
      ap (λ n. n.properties) (sym c.self.view_is) ∙ ap properties_in (sym (take_rest w.text.now w.at)) ∙ is.first ∙ ap (λ ps. c.property_at-property.result.0 ∷ ps) past.1,
      ap (λ n. n.nodes) c.self.view_is,
    )
