-- Each arm takes a step of the node, and knows its effect.
use Rattle.judged_lines.proofs.Common.{arith, rules, common_steps, LegalStep}
use Rattle.std.proofs.lemmas.Result.{err_from_is_err_and}
use Rattle.judged_lines.specs.Judgement.{IsEffect}
use Rattle.judged_lines.proofs.Steps.{something, meant_effect, takes_turn, refuses_turn}
use Rattle.judged_lines.proofs.judging.step.take_contents.Goals as goal
use Rattle.judged_lines.proofs.judging.step.take_contents.Goals.{in-Nothing-Nothing+in_ok-stay-in-Nothing-Nothing, in-Nothing-Meant+in_ok-effect-in-Nothing-Meant, in-One-Nothing+in-Some+in_ok-turn-in-One-Nothing}

pub set_up-requires-clause-something : goal.set_up-requires-clause-something
set_up-requires-clause-something g c = grind (arith, common_steps, something)

pub returns-in-Several-Nothing : goal.returns-in-Several-Nothing
returns-in-Several-Nothing g c = search rules

pub returns-in_err-turn-in-One-Nothing-clause-stepped : goal.returns-in_err-turn-in-One-Nothing-clause-stepped
returns-in_err-turn-in-One-Nothing-clause-stepped g c node is =
    let p = err_from_is_err_and c.from_residual-in_err-turn-in-One-Nothing.result c.from_residual-in_err-turn-in-One-Nothing.ensures.1 in
    let refused = refuses_turn LegalStep c.args.referee.now c.turn.new.self c.in-One-Nothing.colour c.in-Some.play c.in_err-turn-in-One-Nothing.field-0.0 c.in_err-turn-in-One-Nothing.ensures.illegal c.in_err-turn-in-One-Nothing.ensures.err in
    rw (p.1, p.2) (grind (arith, common_steps))

pub returns-clause-stepped : goal.returns-clause-stepped
returns-clause-stepped g c node is = elim c.match-contents.branch [
  | in-Nothing-Nothing+in_ok-stay-in-Nothing-Nothing w ↦ rw w.referee-is (grind (arith, common_steps))
  | in-Nothing-Meant+in_ok-effect-in-Nothing-Meant w ↦ rw w.referee-is (grind (arith, common_steps))
  | in-One-Nothing+in-Some+in_ok-turn-in-One-Nothing w ↦ rw w.referee-is (grind (arith, common_steps, takes_turn c.args.referee.now w.turn.new.self w.in-One-Nothing.colour w.in-Some.play w.in_ok-turn-in-One-Nothing.field-0 w.in_ok-turn-in-One-Nothing.ensures.illegal w.in_ok-turn-in-One-Nothing.ensures.ok))
]

pub returns-clause-told : goal.returns-clause-told
returns-clause-told g c node is =
    let effect : IsEffect c.args.referee.now.present.colouring.side node c.match-contents.effect = elim c.match-contents.branch [
      | in-Nothing-Nothing+in_ok-stay-in-Nothing-Nothing w ↦ rw w.effect-is (grind (arith, common_steps))
      | in-Nothing-Meant+in_ok-effect-in-Nothing-Meant w ↦ rw (w.effect-is, w.in_ok-effect-in-Nothing-Meant.ensures.effect)
          (meant_effect _ _ c.args.operations.now w.in-Nothing-Meant.player _ _ (rw w.in-Nothing-Meant.is-0 at is.moves_are) (rw w.in-Nothing-Meant.is-1 at is.setup_is))
      | in-One-Nothing+in-Some+in_ok-turn-in-One-Nothing w ↦ rw w.effect-is (grind (arith, common_steps))
    ] in
    record { effect_is = effect; comment_is = is.comment_is }
