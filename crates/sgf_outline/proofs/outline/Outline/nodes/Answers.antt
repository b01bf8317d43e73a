use Rattle.sgf_outline.proofs.Common.{subst, arith, rules, PlacesRise}
use Rattle.sgf_outline.proofs.PlacesRise.{places-rise}
use Rattle.sgf_outline.proofs.Outlined.{node-in}
use Rattle.sgf_outline.proofs.outline.Outline.nodes.Goals as goal

pub returns-clause-count : goal.returns-clause-count
returns-clause-count c = search rules

pub returns-clause-few : goal.returns-clause-few
returns-clause-few c = omega (arith, c.self.invariant.0.held.nodes_counted, c.self.invariant.0.few, c.self.invariant.0.short)

pub returns-clause-places_rise : goal.returns-clause-places_rise
returns-clause-places_rise c = subst PlacesRise c.self.view_is (places-rise _ c.self.inside.text.now c.self.invariant.0.spelled)

pub returns-clause-places_within : goal.returns-clause-places_within
returns-clause-places_within c i p h =
    omega (arith, (node-in c.self.inside.text.now c.self.inside.sequences c.self.invariant.0 _ c.self.view_is i p h).2, c.self.invariant.0.short)
