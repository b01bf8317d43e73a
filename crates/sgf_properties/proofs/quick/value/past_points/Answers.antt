use Rattle.std.proofs.Common.{rules}
use Rattle.sgf_properties.proofs.Points.{points_more, fourth_stands}
use Rattle.sgf_properties.proofs.quick.value.past_points.Goals as goal

pub points-preserved : goal.points-preserved
points-preserved c = search (rules, points_more, fourth_stands)
