use Rattle.board_stones.specs.declared.stones.Colour.TheVariants.{Black, White}
use Rattle.board_stones.proofs.LibertyLemmas.{unreaching_is, Decides-AllReach}
use Rattle.board_stones.proofs.board.Board.has_unreaching.Goals as goal

pub returns : goal.returns
returns c =
    let g = c.args.self.now in
    unreaching_is g _ _ (Decides-AllReach g Black _ _ c.shut_stones.ensures.shut c.is_none-black_reach.ensures) (Decides-AllReach g White _ _ c.shut_stones-2.ensures.shut c.is_none.ensures)
