use Rattle.std.proofs.Common.{[], ap}
use Rattle.sgf_outline.proofs.Traversing.{no-traversal}
use Rattle.sgf_outline.proofs.outline.Outline.no_nodes.Goals as goal

pub invariant_of-result : goal.invariant_of-result
invariant_of-result c = (search ((no-traversal c.self.inside.text.now c.self.invariant.0.spelled).0), c.self.invariant.1)

pub returns : goal.returns
returns c = ap (λ ps. record { properties = ps; nodes = [] }) (no-traversal c.self.inside.text.now c.self.invariant.0.spelled).1
