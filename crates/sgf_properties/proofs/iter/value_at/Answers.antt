use Rattle.std.proofs.Common.{rules}
use Rattle.sgf_properties.proofs.Iterating.{no-bracket, no-end, first-value}
use Rattle.sgf_properties.proofs.iter.value_at.Goals as goal

pub returns-then-not-stands_at : goal.returns-then-not-stands_at
returns-then-not-stands_at c =
    no-bracket c.args.text.now c.args.at c.skip_white_space-bracket.result c.skip_white_space-bracket.ensures (c.stands_at.ensures.other c.if-not-stands_at.true)

pub returns-in-Some : goal.returns-in-Some
returns-in-Some c = search (rules, first-value)

pub returns-in_err-close : goal.returns-in_err-close
returns-in_err-close c = search (rules, no-end)

pub returns : goal.returns
returns c = search (rules, first-value)
