use Rattle.std.proofs.Common.{◌∙◌, rules, codes}
use Rattle.clap.specs.Matches.{found_of}
use Rattle.clap.proofs.WalkLemmas.{first_value-rows}
use Rattle.sgfsplit_job.proofs.PlainWords.{given_word, nothing_given}
use Rattle.sgfsplit_job.proofs.words.form_given.Goals as goal

pub returns-in-Some : goal.returns-in-Some
returns-in-Some c = search (rules, given_word, first_value-rows)

pub returns-in-None : goal.returns-in-None
returns-in-None c = λ form e.
    let none = nothing_given _ _ (c.get_str.ensures ∙ (first_value-rows (found_of c.args.found.now) (codes "form") ∙ e)) c.in-None.is in
    cc
