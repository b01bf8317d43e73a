use Rattle.board_stones.proofs.Common.{◌≡◌, sym, subst, rules, Empty, AreRowsOf, same_cell, stone_of, cell_at}
use Rattle.board_stones.proofs.LibertyLemmas.{rows_of_colour}
use Rattle.board_stones.proofs.RegionLemmas.{region_is, filled_reaches, AreRowsOf-filled}
use Rattle.board_stones.proofs.board.Board.area_of.Goals as goal

pub returns-clause-are : goal.returns-clause-are
returns-clause-are c =
    let g = c.args.self.now in
    let k = c.args.colour in
    let area = c.copy_from_slice.new.self in
    let same : area ≡ c.rows_of.result.now = search rules in
    let own = subst (AreRowsOf g.side (λ p. same_cell (cell_at g p) (stone_of k))) (sym same) c.rows_of.ensures.are in
    let other = rows_of_colour _ _ _ _ c.opponent.ensures c.rows_of-2.ensures.are in
    let region = c.other_points.new.others in
    let room = region_is g k c.rows_of-2.result.now region other c.rows_of-2.ensures.rows c.other_points.ensures in
    AreRowsOf-filled g Empty (stone_of k) region area room own c.fill.new.rows c.fill.ensures.grows.within c.fill.ensures.grows.kept c.fill.ensures.closed
    (filled_reaches g Empty (stone_of k) region area room own c.fill.new.rows c.fill.ensures.grows)
