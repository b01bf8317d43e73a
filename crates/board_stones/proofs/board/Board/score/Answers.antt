use Rattle.board_stones.proofs.Common.{ap, ◌∙◌, arith, count_apart, Grid}
use Rattle.board_stones.specs.declared.stones.Colour.TheVariants.{Black, White}
use Rattle.board_stones.proofs.ScoreLemmas.{score_by_rows}
use Rattle.board_stones.proofs.board.Board.score.Goals as goal

pub score_in_halves-requires : goal.score_in_halves-requires
score_in_halves-requires c = omega (arith, ap (λ (g : Grid). g.side) c.self.view_is, c.side.ensures.value)

pub returns-clause-black : goal.returns-clause-black
returns-clause-black c =
    c.count_apart.ensures ∙ ap (λ n. count_apart n c.area_of.new.area c.area_of-2.new.area) c.area_of.ensures.rows
    ∙ score_by_rows c.args.self.now Black c.area_of.new.area c.area_of-2.new.area c.area_of.ensures.are c.area_of-2.ensures.are

pub returns-clause-white : goal.returns-clause-white
returns-clause-white c =
    c.count_apart-2.ensures ∙ ap (λ n. count_apart n c.area_of-2.new.area c.area_of.new.area) c.area_of-2.ensures.rows
    ∙ score_by_rows c.args.self.now White c.area_of-2.new.area c.area_of.new.area c.area_of-2.ensures.are c.area_of.ensures.are
