-- clap entered the command with this name, and found what the words after it give.
use Rattle.std.proofs.Common.{◌≡◌, ◌∙◌, ap, codes, false, subst, sym, true, rules, true≢false}
use Rattle.std.specs.Str.Parse.{ExplainsUnsignedError, HasUnsignedDigitsIfOk, ParsesUnsigned}
use Rattle.clap.specs.Matches.{found_of}
use Rattle.clap.specs.Walk.{first_of}
use Rattle.clap.proofs.WalkLemmas.{one_text-rows}
use Rattle.sgfsplit_job.specs.PlainWords.{file_of}
use Rattle.sgfsplit_job.specs.inner.Found.{HoldSplitWords}
use Rattle.sgfsplit_job.proofs.PlainWords.{entered_name, number_given, same_name, same_rows}
use Rattle.sgfsplit_job.proofs.words.found_job.Goals as goal

pub returns-clause-split : goal.returns-clause-split
returns-clause-split c = λ words rows plain sub hold.
    let same = same_rows _ _ _ _ c.subcommand.ensures.rows c.in-Some.is sub in
    let found = subst (HoldSplitWords words) same hold in
    let matches = found_of c.in-Some.found.now in
    let form = c.form_given.ensures _ found.form in
    let after = number_given _ (λ bs r. ParsesUnsigned 64 10 bs r × ExplainsUnsignedError 10 bs r × HasUnsignedDigitsIfOk bs r) _ words.after c.get_one.result
    (one_text-rows matches (codes "after") ∙ found.after) c.get_one.ensures.none c.get_one.ensures.value (λ u x g. g.0) plain.after in
    let limit = number_given _ (λ bs r. ParsesUnsigned 64 10 bs r × ExplainsUnsignedError 10 bs r × HasUnsignedDigitsIfOk bs r) _ words.limit c.get_one-2.result
    (one_text-rows matches (codes "limit") ∙ found.limit) c.get_one-2.ensures.none c.get_one-2.ensures.value (λ u x g. g.0) plain.limit in
    (cc, c.in_ok-file.ensures ∙ ap file_of found.file)

pub returns-clause-count : goal.returns-clause-count
returns-clause-count c = λ rows sub.
    let name = same_name _ _ _ _ c.subcommand.ensures.name c.in-Some.is (entered_name c.args.found.now (codes "count") rows sub) in
    let other = sym c.eq.ensures ∙ c.if-eq.false in
    let clash : true ≡ false = rw name at other in
    absurd (true≢false clash)

pub returns-then-eq-clause-split : goal.returns-then-eq-clause-split
returns-then-eq-clause-split c = search (rules, same_name, entered_name, true≢false)

pub returns-then-eq-clause-count : goal.returns-then-eq-clause-count
returns-then-eq-clause-count c = λ rows sub.
    let same = same_rows _ _ _ _ c.subcommand.ensures.rows c.in-Some.is sub in
    c.in_ok-file.ensures ∙ ap (λ all. file_of (first_of (codes "file") all)) (sym same)
