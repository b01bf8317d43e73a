use Rattle.board_points.proofs.PointLemmas.{length-points, slice_get-points}
use Rattle.board_points.proofs.laws.listing.Goals as goal

pub returns-clause-length : goal.returns-clause-length
returns-clause-length c = length-points

pub returns-clause-once : goal.returns-clause-once
returns-clause-once c = slice_get-points
