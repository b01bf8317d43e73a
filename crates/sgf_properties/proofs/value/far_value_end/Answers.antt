use Rattle.std.proofs.Common.{◌+◌, ◌<◌, length, arith, rules}
use Rattle.sgf_properties.proofs.ValueEnds.{bracket_found, bracket_none}
use Rattle.sgf_properties.proofs.ValueUnits.{no-units, even-units, odd-units, escapes-units, units-ended, endless}
use Rattle.sgf_properties.proofs.value.far_value_end.Goals as goal

pub brackets-init : goal.brackets-init
brackets-init c = record { within = c.requires; units = no-units c.args.text.now c.args.at }

pub returns-then-escapes-eq0 : goal.returns-then-escapes-eq0
returns-then-escapes-eq0 c =
    let next = bracket_found c.args.text.now c.brackets.start c.in-Some.further c.brackets.invariant.within c.in-Some.ensures in
    search (rules, next, units-ended, even-units)

pub brackets-preserved : goal.brackets-preserved
brackets-preserved c =
    let t = c.args.text.now in
    let start = c.brackets.start in
    let bracket = start + c.in-Some.further in
    let next = bracket_found t start c.in-Some.further c.brackets.invariant.within c.in-Some.ensures in
    record {
      within = c.escapes_end-start.ensures.within;
      units = escapes-units t c.args.at (bracket + 1) c.escapes_end-start.result c.escapes_end-start.ensures
          (odd-units t c.args.at start c.first_escape.result bracket (omega (arith, next.within)) next.before c.first_escape.ensures c.brackets.invariant.units next.within c.if-escapes-eq0.false);
    }

pub returns : goal.returns
returns c =
    let before = c.brackets.invariant in
    let none = bracket_none c.args.text.now c.brackets.start before.within c.in_default.ensures in
    endless c.args.text.now c.args.at c.brackets.start before.within none before.units
