use Rattle.board_points.proofs.Common.{arith, common_steps, vertex_of}
use Rattle.board_points.proofs.vertices.naming.vertex.Goals as goal

pub returns : goal.returns
unfolding vertex_of
returns c = grind (arith, common_steps)
