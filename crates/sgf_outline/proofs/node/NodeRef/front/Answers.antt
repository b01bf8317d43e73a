use Rattle.sgf_outline.proofs.Common.{◌∙◌, sym, ap, Node}
use Rattle.sgf_outline.proofs.LoneNodes.{front-left}
use Rattle.sgf_outline.proofs.node.NodeRef.front.Goals as goal

pub new-left-requires-clause-held : goal.new-left-requires-clause-held
new-left-requires-clause-held c = (front-left c.self.inside.text.now (c.is_lone_front.ensures c.if-is_lone_front.true) c.self.invariant.0.properties).1

pub returns-then-is_lone_front : goal.returns-then-is_lone_front
returns-then-is_lone_front c =
    let is = c.is_lone_front.ensures c.if-is_lone_front.true in
    rw c.new-left.ensures (ap (λ (n : Node). n.properties) (sym c.self.view_is) ∙ (front-left c.self.inside.text.now is c.self.invariant.0.properties).0)

pub returns-else-is_lone_front : goal.returns-else-is_lone_front
returns-else-is_lone_front c = cc
