use Rattle.board_points.proofs.Common.{◌∙◌}
use Rattle.board_points.proofs.PointLemmas.{index_of-point_at}
use Rattle.board_points.proofs.points.Point.of_index.Goals as goal

pub returns-clause-value : goal.returns-clause-value
returns-clause-value c =
    let same = c.from-side.ensures ∙ c.side.ensures.value in
    rw same (index_of-point_at c.args.size c.args.index c.requires)
