use Rattle.std.proofs.Common.{◌+◌, rules}
use Rattle.sgf_properties.proofs.NearBrackets.{lowest_found}
use Rattle.sgf_properties.proofs.ValueUnits.{no-units, ordinary-units, bare-units, units-ended}
use Rattle.sgf_properties.proofs.quick.value.near_value_end.Goals as goal
use Rattle.sgf_properties.proofs.quick.value.near_value_end.Goals.{else-bracket-at-via-then-bracket-at+else-text-bracket-eq92, else-bracket-at-via-else-bracket-at}

pub returns-then-is_two_ordinary : goal.returns-then-is_two_ordinary
returns-then-is_two_ordinary c =
    let t = c.args.text.now in
    let at = c.args.at in
    let pair = c.is_two_ordinary.ensures c.if-is_two_ordinary.true in
    units-ended t at (at + 2) (ordinary-units t at at (at + 2) (no-units t at) pair.ordinary) pair.within pair.bracket

pub returns : goal.returns
returns c =
    let next = lowest_found c.args.text.now c.args.at c.requires c.if-found-eq0.false in
    search (rules, next, else-bracket-at-via-then-bracket-at+else-text-bracket-eq92, else-bracket-at-via-else-bracket-at, units-ended, bare-units)
