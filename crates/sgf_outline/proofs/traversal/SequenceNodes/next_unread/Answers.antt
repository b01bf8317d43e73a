-- No property is left, so the traversal is at the `;` of its next node.
use Rattle.sgf_outline.proofs.Common.{◌≡◌, ◌<◌, ◌∙◌, length, sym, ap, take_rest, arith, refl, games_in, NodesLeft, node_in, nodes_between}
use Rattle.sgf_outline.proofs.Traversing.{IsNextAt, some-between, next-closed, into-node, past-front}
use Rattle.sgf_outline.proofs.traversal.SequenceNodes.next_unread.Goals as goal
use Rattle.sgf_outline.proofs.traversal.SequenceNodes.next_unread.Goals.{After-is_lone_front}

-- the traversal is at its next node
next : (c : After-is_lone_front) → (more : c.self.inside.number < c.self.inside.end) × (nodes_between (games_in c.self.inside.text.now) c.self.inside.number c.self.inside.end ≡ c.args.self.now.nodes)
    × IsNextAt c.self.inside.text.now c.self.inside.at c.self.inside.number c.self.inside.end c.self.invariant.0 more
next c =
    let s = c.self.inside in
    let left = c.self.view_is ∙ c.in_default.ensures.1 in
    let nodes : nodes_between (games_in s.text.now) s.number s.end ≡ c.args.self.now.nodes = ap (λ (n : NodesLeft). n.nodes) left ∙ c.left.invariant in
    let more : s.number < s.end = some-between (games_in s.text.now) s.number s.end (omega (arith, c.requires, ap length nodes)) in
    (more, nodes, next-closed s.text.now s.at s.number s.end c.self.invariant.0 more (ap (λ (n : NodesLeft). n.properties) left ∙ c.in_default.ensures.0))

pub invariant_of-self : goal.invariant_of-self
invariant_of-self c =
    let s = c.self.inside in
    let at = next (goal.at.invariant_of-self c).After-is_lone_front in (
      (past-front s.text.now s.at s.number s.end c.self.invariant.0 at.0 at.2 _ (take_rest s.text.now s.at) (c.is_lone_front.ensures c.if-is_lone_front.true) c.skip_white_space-self-inside.result
          c.skip_white_space-self-inside.ensures).0,
      c.self.invariant.1,
    )

pub returns-then-is_lone_front : goal.returns-then-is_lone_front
returns-then-is_lone_front c =
    let s = c.self.inside in
    let at = next (goal.at.returns-then-is_lone_front c).After-is_lone_front in
    let front = past-front s.text.now s.at s.number s.end c.self.invariant.0 at.0 at.2 _ (take_rest s.text.now s.at) (c.is_lone_front.ensures c.if-is_lone_front.true) c.skip_white_space-self-inside.result
    c.skip_white_space-self-inside.ensures in
    (node_in s.text.now s.at, sym at.1 ∙ at.2.nodes, λ _. (refl, front.1))

pub invariant_of-self-2 : goal.invariant_of-self-2
invariant_of-self-2 c =
    let s = c.self.inside in
    let at = next (goal.at.invariant_of-self-2 c).After-is_lone_front in
    ((into-node s.text.now s.at s.number s.end c.self.invariant.0 at.0 at.2 c.skip_white_space-self-inside-2.result c.skip_white_space-self-inside-2.ensures).0, c.self.invariant.1)

pub skip_white_space-self-inside-requires-2 : goal.skip_white_space-self-inside-requires-2
skip_white_space-self-inside-requires-2 c =
    let at = next (goal.at.skip_white_space-self-inside-requires-2 c).After-is_lone_front in
    omega (arith, at.2.inside)

pub returns : goal.returns
returns c =
    let s = c.self.inside in
    let at = next (goal.at.returns c).After-is_lone_front in
    let node = into-node s.text.now s.at s.number s.end c.self.invariant.0 at.0 at.2 c.skip_white_space-self-inside-2.result c.skip_white_space-self-inside-2.ensures in
    (node_in s.text.now s.at, sym at.1 ∙ at.2.nodes, λ _. (refl, node.1))
