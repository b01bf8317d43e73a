use Rattle.board_stones.proofs.SweepLemmas.{without_shut}
use Rattle.board_stones.proofs.StoneRowsLemmas.{all_cells}
use Rattle.board_stones.proofs.board.Board.clear.Goals as goal

pub returns-clause-value : goal.returns-clause-value
returns-clause-value c =
    let i = c.self.inside in
    without_shut c.args.self.now c.empty_set.new.self c.args.colour c.shut_stones.new.shut (all_cells i.size i.black i.white _ c.self.view_is) c.shut_stones.ensures.shut c.empty_set.ensures
