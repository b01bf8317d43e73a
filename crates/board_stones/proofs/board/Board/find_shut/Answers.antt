use Rattle.board_stones.proofs.Common.{sym, ◌∙◌}
use Rattle.board_stones.proofs.LibertyLemmas.{rows_of_colour, Reaches-liberty, IsStone-rows, AreShutGroups-shut}
use Rattle.board_stones.proofs.board.Board.find_shut.Goals as goal

pub fill_if_shut-requires-clause-stone : goal.fill_if_shut-requires-clause-stone
fill_if_shut-requires-clause-stone c =
    let are = rows_of_colour _ _ _ _ c.opponent.ensures c.rows_of-others.ensures.are in
    IsStone-rows _ _ _ _ _ c.rows_of.ensures.rows c.rows_of.ensures.are are c.has_all_cells.ensures.few c.rows_of-others.ensures.rows c.requires.on_board c.requires.stone

pub fill_if_shut-requires-clause-none : goal.fill_if_shut-requires-clause-none
fill_if_shut-requires-clause-none c = record { all = c.requires.none.all ∙ sym c.rows_of.ensures.rows; none = c.requires.none.none }

pub returns-clause-shut : goal.returns-clause-shut
returns-clause-shut c = λ is.
    let are = rows_of_colour _ _ _ _ c.opponent.ensures c.rows_of-others.ensures.are in
    AreShutGroups-shut _ _ _ _ _ c.rows_of.ensures.rows c.rows_of.ensures.are are _ (c.fill_if_shut.ensures.shut is)

pub returns-clause-here : goal.returns-clause-here
returns-clause-here c = λ is. (c.fill_if_shut.ensures.shut is).start

pub returns-clause-lives : goal.returns-clause-lives
returns-clause-lives c = λ no.
    let g = c.args.self.now in
    let k = c.args.colour in
    let own = c.rows_of in
    let other = c.rows_of-others in
    let are = rows_of_colour _ _ _ _ c.opponent.ensures other.ensures.are in
    let w = c.fill_if_shut.ensures.lives no in
    Reaches-liberty g k own.result.now other.result.now c.args.point own.ensures.rows own.ensures.are are c.requires.on_board c.requires.stone w.0 w.1

pub returns-clause-all : goal.returns-clause-all
returns-clause-all c = c.fill_if_shut.ensures.all ∙ c.rows_of.ensures.rows
