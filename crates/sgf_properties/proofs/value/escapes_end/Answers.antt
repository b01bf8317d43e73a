use Rattle.sgf_properties.proofs.Common.{◌+◌, ◌<◌, length, arith, rules, cases_lt}
use Rattle.sgf_properties.proofs.value.escapes_end.Goals as goal

pub escapes-preserved : goal.escapes-preserved
escapes-preserved c =
    let t = c.args.text.now in
    let at = c.args.at in
    let before = c.escapes.invariant in
    let room : c.escapes.end + 1 < length t = omega arith in
    record {
      within = omega (arith, room);
      count = before.count + 1;
      bytes = omega (arith, before.bytes);
      each = search (rules, cases_lt);
    }
