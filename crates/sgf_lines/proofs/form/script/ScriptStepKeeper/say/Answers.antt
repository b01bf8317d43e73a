-- One more piece has the commands of the node.
use Rattle.sgf_lines.proofs.Common.{◌≡◌, ap, ◌∙◌, arith, rules, common_steps, ScriptState, is_unreaching, said_on, step_script}
use Rattle.sgf_lines.proofs.Scripts.{says}
use Rattle.sgf_lines.proofs.form.script.ScriptStepKeeper.say.Goals as goal

pub returns-then-not-has_unreaching : goal.returns-then-not-has_unreaching
returns-then-not-has_unreaching c =
    let board = c.args.board.now in
    let step = c.args.step in
    let new : ScriptState = record { text = c.close.new.self; said = c.count-self-inside.result } in
    let on : new ≡ said_on c.args.self.now (is_unreaching board step.effect) (step_script board step) = grind (arith, common_steps) in
    λ kind before taken is of. on ∙ ap (λ s. said_on s (is_unreaching board step.effect) (step_script board step)) is ∙ says kind board step taken of before

pub returns-else-self-count : goal.returns-else-self-count
returns-else-self-count c =
    let board = c.args.board.now in
    let step = c.args.step in
    let on : c.else-self-count.self ≡ said_on c.args.self.now (is_unreaching board step.effect) (step_script board step) = search rules in
    λ kind before taken is of. on ∙ ap (λ s. said_on s (is_unreaching board step.effect) (step_script board step)) is ∙ says kind board step taken of before
