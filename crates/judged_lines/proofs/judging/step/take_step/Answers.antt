use Rattle.judged_lines.proofs.Common.{◌≡◌, ◌++◌, ◌∷◌, [], lone_property, told_property, HoldsAlone}
use Rattle.judged_lines.proofs.Gathered.{gathered_alone}
use Rattle.judged_lines.proofs.judging.step.take_step.Goals as goal

pub take_contents-requires : goal.take_contents-requires
take_contents-requires g c = (record { place = 0; properties = lone_property c.in-Led.letter c.in-Led.value.now ∷ [] }, c.of_lone.ensures c.args.referee.now.present.colouring.side)

pub take_contents-requires-in-Empty : goal.take_contents-requires-in-Empty
take_contents-requires-in-Empty g c = (record { place = 0; properties = [] }, c.nothing.ensures c.args.referee.now.present.colouring.side)

pub returns-in-Led-clause-stepped : goal.returns-in-Led-clause-stepped
returns-in-Led-clause-stepped g c node is =
    let alone : HoldsAlone (lone_property c.in-Led.letter c.in-Led.value.now) node.properties = (rw c.in-Led.is at is).1 in
    let side = c.args.referee.now.present.colouring.side in
    c.take_contents.ensures.stepped node (gathered_alone side (lone_property c.in-Led.letter c.in-Led.value.now) node.properties c.of_lone.result (c.of_lone.ensures side) alone)

pub returns-in-Led-clause-told : goal.returns-in-Led-clause-told
returns-in-Led-clause-told g c node is =
    let alone : HoldsAlone (lone_property c.in-Led.letter c.in-Led.value.now) node.properties = (rw c.in-Led.is at is).1 in
    let side = c.args.referee.now.present.colouring.side in
    c.take_contents.ensures.told node (gathered_alone side (lone_property c.in-Led.letter c.in-Led.value.now) node.properties c.of_lone.result (c.of_lone.ensures side) alone)

pub returns-in-Unread-clause-stepped : goal.returns-in-Unread-clause-stepped
returns-in-Unread-clause-stepped g c node is =
    let left : node.properties ≡ told_property c.in-Unread.front ++ c.args.nodes.now.properties = (rw c.in-Unread.is at is).1 in
    c.take_any_step.ensures.stepped node left
