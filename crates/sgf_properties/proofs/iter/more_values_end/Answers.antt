use Rattle.sgf_properties.proofs.Common.{[], ◌∷◌, ◌++◌, slice_range, arith, no_value, value}
use Rattle.sgf_properties.proofs.Iterating.{values-joined}
use Rattle.sgf_properties.proofs.Points.{points-spelled}
use Rattle.sgf_properties.proofs.iter.more_values_end.Goals as goal

pub values-init : goal.values-init
values-init c =
    let points = c.past_points-end.ensures in
    let (values, spelled) = points-spelled c.args.text.now c.args.at c.past_points-end.result points.points in
    record { rises = omega (arith, points.points.ends); within = points.within; values = values; spelled = spelled }

pub values-preserved : goal.values-preserved
values-preserved c =
    let t = c.args.text.now in
    let before = c.values.invariant in
    let next = c.in-Some.ensures in
    record {
      rises = omega (arith, before.rises, next.begins, next.rises);
      within = omega (arith, next.within);
      values = before.values ++ slice_range t c.in-Some._start c.in-Some.close ∷ [];
      spelled = values-joined before.spelled (value next.spelled no_value);
    }
