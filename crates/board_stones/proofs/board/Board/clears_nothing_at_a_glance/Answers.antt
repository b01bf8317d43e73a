use Rattle.board_stones.proofs.LibertyLemmas.{rows_of_colour}
use Rattle.board_stones.proofs.GlanceLemmas.{all_live}
use Rattle.board_stones.proofs.ClearedLemmas.{clears_nothing}
use Rattle.board_stones.proofs.board.Board.clears_nothing_at_a_glance.Goals as goal

pub returns : goal.returns
returns c = λ is.
    clears_nothing c.args.self.now c.args.point c.args.colour c.requires.on_board c.has_all_cells.ensures.all c.requires.settled
    (all_live c.args.self.now c.args.colour c.args.point c.rows_of-own.result.now c.rows_of-others.result.now c.rows_of-own.ensures.rows c.requires.on_board c.rows_of-own.ensures.are
    (rows_of_colour _ _ _ _ c.opponent.ensures c.rows_of-others.ensures.are) (c.leaves_all_alive.ensures is))
