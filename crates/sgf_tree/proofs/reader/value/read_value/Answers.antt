use Rattle.std.proofs.Common.{◌≡◌, ◌+◌, true, is_ok, arith}
use Rattle.std.proofs.lemmas.Grind.{common_steps}
use Rattle.sgf_properties.proofs.KeptLengths.{kept-push}
use Rattle.sgf_tree.proofs.ValueEnds.{unended-fault}
use Rattle.sgf_tree.proofs.reader.value.read_value.Goals as goal

pub returns-in_default-far_value_end-clause-fault : goal.returns-in_default-far_value_end-clause-fault
returns-in_default-far_value_end-clause-fault c =
    let points = c.past_points-start.ensures in
    let stands = points.stands c.requires.stands in
    record {
      last = _;
      points = points.points;
      stands = stands;
      in_value = unended-fault c.args.text.now (c.past_points-start.result + 1) (omega (arith, stands.within)) c.in_default-far_value_end.ensures;
    }

pub returns-then-is_err-clause-fault : goal.returns-then-is_err-clause-fault
returns-then-is_err-clause-fault c =
    let points = c.past_points-start.ensures in
    record { last = _; points = points.points; stands = points.stands c.requires.stands; in_value = λ node name before reached. tt }

pub returns-else-is_err-clause-read : goal.returns-else-is_err-clause-read
returns-else-is_err-clause-read c =
    let points = c.past_points-start.ensures in
    let stands = points.stands c.requires.stands in
    let value = c.in-Some-far_value_end in
    let kept : is_ok c.push.result ≡ true = grind (arith, common_steps) in
    record {
      last = _;
      points = points.points;
      stands = stands;
      ends = value.ensures;
      kept = rw (c.push.ensures.items, kept)
          (kept-push c.args.text.now c.args.long.now.items (c.past_points-start.result + 1) value.end c.requires.may.kept (omega (arith, stands.within)) value.ensures);
    }
