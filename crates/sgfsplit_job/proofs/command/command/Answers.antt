use Rattle.std.proofs.Common.{true, ap, ap₂, ◌≡◌, ◌∙◌}
use Rattle.clap.specs.Simple.{App, app_of, app_of_fields, on_top, with_subcommand}
use Rattle.clap.proofs.SimpleLemmas.{plain_fields}
use Rattle.sgfsplit_job.specs.CommandLine.{program_alone}
use Rattle.sgfsplit_job.proofs.command.command.Goals as goal

pub returns : goal.returns
returns c =
    let split = c.in_ok-split.ensures in
    let count = c.in_ok-count.ensures in
    let described = ap app_of_fields c.after_help.ensures ∙ (ap app_of_fields c.about.ensures ∙ c.new.ensures.app) in
    let start : app_of c.subcommand_required.result ≡ program_alone
    = ap app_of_fields c.subcommand_required.ensures ∙ ap (on_top (λ s. record s { subcommand_required = true })) described in
    let split_local = (plain_fields _ (ap (λ (a : App). a.top.is_plain) split.2)).globals in
    let count_local = (plain_fields _ (ap (λ (a : App). a.top.is_plain) count)).globals in
    let with_split = c.in_ok-program.ensures.shape split_local ∙ ap₂ with_subcommand start (ap (λ (a : App). a.top) split.2) in
    let whole = c.in_ok-subcommand.ensures.shape count_local ∙ ap₂ with_subcommand with_split (ap (λ (a : App). a.top) count) in
    (split.0, split.1, whole)
