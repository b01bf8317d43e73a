use Rattle.board_points.proofs.GlanceLemmas.{open_beside}
use Rattle.board_points.proofs.quick.glance.columns_shut.Goals as goal

pub returns : goal.returns
returns c = λ col. open_beside c.args.above c.args.here c.args.below c.args.off col c.requires
