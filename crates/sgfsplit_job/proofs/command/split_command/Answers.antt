use Rattle.std.proofs.Common.{ap, ap₂, codes, ◌≡◌, ◌∙◌}
use Rattle.clap.specs.Simple.{app_of, app_of_fields, new_app, with_rule}
use Rattle.sgfsplit_job.proofs.command.split_command.Goals as goal

-- each call of the builder adds its part to the command that a parse reads
pub returns : goal.returns
returns c =
    let form = c.form_option.ensures.rule in
    let start : app_of c.after_help.result ≡ new_app (codes "split") = ap app_of_fields c.after_help.ensures ∙ (ap app_of_fields c.about.ensures ∙ c.new.ensures.app) in
    let with_form = c.in_ok-arg.ensures.shape c.form_option.ensures.local ∙ ap₂ with_rule start form.2 in
    let with_after = c.in_ok-arg-2.ensures.shape c.number_option.ensures.local ∙ ap₂ with_rule with_form c.number_option.ensures.rule in
    let with_limit = c.in_ok-arg-3.ensures.shape c.number_option-2.ensures.local ∙ ap₂ with_rule with_after c.number_option-2.ensures.rule in
    let whole = c.in_ok-split.ensures.shape c.file_argument.ensures.local ∙ ap₂ with_rule with_limit c.file_argument.ensures.rule in
    (form.0, form.1, whole)
