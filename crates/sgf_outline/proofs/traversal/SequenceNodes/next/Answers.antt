use Rattle.sgf_outline.proofs.Common.{◌∙◌, drop, refl, sym, ap, subst, take_rest, arith, rules, common_steps, NodesLeft, IsLedNode, IsEmptyNode, node_in}
use Rattle.sgf_outline.proofs.Leading.{led-properties, led-next, empty-next}
use Rattle.sgf_outline.proofs.Traversing.{between_some}
use Rattle.sgf_outline.proofs.traversal.SequenceNodes.next.Goals as goal

pub next_unread-requires : goal.next_unread-requires
next_unread-requires c = search (rules, between_some)

pub returns : goal.returns
returns c = (c.next_unread.ensures.0, c.next_unread.ensures.1, c.next_unread.ensures.2 c.args.names.now)

pub invariant_of-self : goal.invariant_of-self
invariant_of-self c =
    let w = c.self.inside in
    let is : IsLedNode c.args.names.now (drop w.at w.text.now) c.in-Some.end = subst (λ s. IsLedNode c.args.names.now s c.in-Some.end) (take_rest w.text.now w.at) c.in-Some.ensures in
    ((led-next w.text.now w.at w.number w.end c.self.invariant.0 (omega (arith, c.self.invariant.0.rises, c.if-self.false)) c.args.names.now c.in-Some.end is).1, c.self.invariant.1)

pub returns-in-Some : goal.returns-in-Some
returns-in-Some c =
    let w = c.self.inside in
    let is : IsLedNode c.args.names.now (drop w.at w.text.now) c.in-Some.end = subst (λ s. IsLedNode c.args.names.now s c.in-Some.end) (take_rest w.text.now w.at) c.in-Some.ensures in
    let next = led-next w.text.now w.at w.number w.end c.self.invariant.0 (omega (arith, c.self.invariant.0.rises, c.if-self.false)) c.args.names.now c.in-Some.end is in (
      node_in w.text.now w.at,
      ap (λ (n : NodesLeft). n.nodes) (sym c.self.view_is) ∙ next.0,
      (
        refl,
        rw (take_rest w.text.now w.at) (search (led-properties c.args.names.now (drop w.at w.text.now) c.in-Some.end is)),
        next.2,
      ),
    )

pub invariant_of-self-then-is_empty_node : goal.invariant_of-self-then-is_empty_node
invariant_of-self-then-is_empty_node c = grind (arith, common_steps, take_rest, empty-next)

pub returns-then-is_empty_node : goal.returns-then-is_empty_node
returns-then-is_empty_node c =
    let w = c.self.inside in
    let is : IsEmptyNode (drop w.at w.text.now) = subst IsEmptyNode (take_rest w.text.now w.at) (c.is_empty_node.ensures c.if-is_empty_node.true) in
    let next = empty-next w.text.now w.at w.number w.end c.self.invariant.0 (omega (arith, c.self.invariant.0.rises, c.if-self.false)) is in
    (node_in w.text.now w.at, ap (λ (n : NodesLeft). n.nodes) (sym c.self.view_is) ∙ next.0.0, (refl, next.1, next.0.2))
