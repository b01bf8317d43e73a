-- What was taken back would have been.
use Rattle.judged_lines.proofs.Common.{◌≡◌, length, back_to}
use Rattle.judged_lines.proofs.judging.judge.Judge.cut_back.Given as goal

abbrev pub invariant-undo : goal.invariant-undo
invariant-undo l = back_to l.game l.count ≡ back_to l.initial.game l.count

abbrev pub decreases-undo : goal.decreases-undo
decreases-undo l = length l.game.earlier
