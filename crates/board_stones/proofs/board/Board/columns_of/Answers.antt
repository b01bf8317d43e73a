use Rattle.board_stones.proofs.Common.{refl}
use Rattle.board_stones.proofs.LibertyLemmas.{columns_at}
use Rattle.board_stones.proofs.board.Board.columns_of.Goals as goal

pub returns : goal.returns
returns c =
    let at = columns_at c.args.self.now _ c.args.colour c.rows_of.result.now c.from.result c.args.row refl c.from.ensures c.requires c.rows_of.ensures.are in
    record { within = at.0; off = at.1 }
