-- The buffer is empty at first. In the end there is a node with what was gathered.
use Rattle.judged_lines.proofs.Common.{[], ◌∷◌, ◌++◌, refl, append-nil, append_assoc, arith, common_steps, rules, lone_property, told_property}
use Rattle.judged_lines.proofs.judging.step.take_any_step.Goals as goal
use Rattle.judged_lines.proofs.judging.step.take_any_step.Goals.{in-None, in-Some}

pub loop-property-init : goal.loop-property-init
loop-property-init g c = elim c.match-front.branch [
  | in-Some w ↦ rw (w.in-Some.is, w.contents-is) (record { gathered = (lone_property w.in-Some.letter w.in-Some.raw.now ∷ [], rw c.clear.ensures.items (w.of_lone-contents.ensures c.size-size.result), refl); left = refl })
  | in-None w ↦ rw (w.in-None.is, w.contents-is) (record { gathered = ([], rw c.clear.ensures.items (w.nothing-contents.ensures c.size-size.result), refl); left = refl })
]

pub loop-property-preserved : goal.loop-property-preserved
loop-property-preserved g c = search (rules, append_assoc)

pub take_contents-requires : goal.take_contents-requires
take_contents-requires g c = (record { place = 0; properties = told_property c.args.front ++ c.args.nodes.now.properties }, grind (arith, common_steps, append-nil))
