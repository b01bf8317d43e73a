use Rattle.board_stones.proofs.Common.{false≢true}
use Rattle.board_stones.proofs.StoneRowsLemmas.{row_set}
use Rattle.board_stones.proofs.board.Board.set_row.Goals as goal

pub invariant_of-self : goal.invariant_of-self
invariant_of-self c =
    let i = c.self.inside in
    ((row_set i.size i.black i.white c.args.self.now c.args.row c.from-row.result c.args.black c.columns_left.result c.args.white c.self.invariant.0 c.self.view_is c.from-row.ensures c.requires.row c.requires.black c.requires.white c.columns_left.ensures.within c.columns_left.ensures.off).0, λ is. absurd (false≢true is))

pub returns : goal.returns
returns c =
    let i = c.self.inside in
    (row_set i.size i.black i.white c.args.self.now c.args.row c.from-row.result c.args.black c.columns_left.result c.args.white c.self.invariant.0 c.self.view_is c.from-row.ensures c.requires.row c.requires.black c.requires.white c.columns_left.ensures.within c.columns_left.ensures.off).1
