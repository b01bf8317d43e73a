use Rattle.std.proofs.Common.{rules, ◌≡◌}
use Rattle.clap.specs.Walk.{rule_of}
use Rattle.sgfsplit_job.specs.CommandLine.{form_rule}
use Rattle.sgfsplit_job.proofs.command.form_option.Goals as goal

pub returns-clause-rule : goal.returns-clause-rule
returns-clause-rule c =
    let rule : rule_of c.value_parser.result ≡ form_rule c.words.result = search (rules, c.value_parser.ensures.given.2) in
    (c.words.result, c.words.ensures, rule)
