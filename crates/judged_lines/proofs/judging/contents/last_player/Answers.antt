use Rattle.judged_lines.proofs.Common.{Some, None, sym, ap, ◌∙◌, last_player}
use Rattle.judged_lines.proofs.Gathered.{later_player}
use Rattle.judged_lines.proofs.judging.contents.last_player.Goals as goal

pub returns-in_err-last-2-clause-last : goal.returns-in_err-last-2-clause-last
returns-in_err-last-2-clause-last c = λ before.
    c.loop-raw.invariant before ∙ later_player c.loop-raw.last c.in-Some.raw.now c.next-in-loop-raw.new.self c.loop-raw.values None c.in-Some.ensures.steps c.in_err-last-2.ensures
    ∙ sym c.from_residual-in_err-last-2.ensures

pub loop-raw-preserved : goal.loop-raw-preserved
loop-raw-preserved c = λ before.
    c.loop-raw.invariant before ∙ later_player c.loop-raw.last c.in-Some.raw.now c.next-in-loop-raw.new.self c.loop-raw.values (Some c.in_ok-last-2.last) c.in-Some.ensures.steps c.in_ok-last-2.ensures

pub returns-clause-last : goal.returns-clause-last
returns-clause-last c = λ before. c.loop-raw.invariant before ∙ ap (last_player (Some c.loop-raw.last)) c.in_default.ensures.steps.0
