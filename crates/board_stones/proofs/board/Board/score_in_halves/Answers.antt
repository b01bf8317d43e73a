use Rattle.board_stones.proofs.Common.{◌≡◌, ap, sym, subst, ◌∙◌, length, rules, Empty, low_halves, high_halves, IsOn, AreRowsOf, count_apart, stone_of, reaches_through_own}
use Rattle.board_stones.specs.declared.stones.Colour.TheVariants.{Black, White}
use Rattle.board_stones.proofs.ScoreLemmas.{score_by_rows}
use Rattle.board_stones.proofs.BothAreasLemmas.{stones_within, areas}
use Rattle.board_stones.proofs.board.Board.score_in_halves.Goals as goal
use Rattle.board_stones.proofs.board.Board.score_in_halves.Goals.{After-fill}

pub fill-requires : goal.fill-requires
fill-requires c =
    let white = c.rows_of-white in
    record {
      same = search rules;
      few = search rules;
      within = stones_within c.args.self.now c.rows_of.result.now white.result.now c.pair_rows.new.areas c.pair_rows.new.region c.requires
          c.rows_of.ensures.are white.ensures.are c.rows_of.ensures.rows white.ensures.rows c.pair_rows.ensures.areas c.pair_rows.ensures.region;
    }

module _ (c : After-fill) where
  pub long : length c.fill.new.rows ≡ c.args.self.now.side
  long = search rules

  pub are : AreRowsOf c.args.self.now.side (reaches_through_own c.args.self.now Empty (stone_of Black)) (low_halves c.fill.new.rows)
      × AreRowsOf c.args.self.now.side (reaches_through_own c.args.self.now Empty (stone_of White)) (high_halves c.fill.new.rows)
  are =
      let white = c.rows_of-white in
      areas c.args.self.now c.rows_of.result.now white.result.now c.pair_rows.new.areas c.pair_rows.new.region c.requires
      c.rows_of.ensures.are white.ensures.are c.rows_of.ensures.rows white.ensures.rows c.pair_rows.ensures.areas c.pair_rows.ensures.region
      c.fill.new.rows c.fill.ensures.grows c.fill.ensures.closed

pub count_halves-requires-clause-black_on : goal.count_halves-requires-clause-black_on
count_halves-requires-clause-black_on c = λ p is.
    let w = (goal.at.count_halves-requires-clause-black_on c).After-fill in
    subst (λ n. IsOn n p) (sym (long w)) ((are w).0.off p is)

pub count_halves-requires-clause-white_on : goal.count_halves-requires-clause-white_on
count_halves-requires-clause-white_on c = λ p is.
    let w = (goal.at.count_halves-requires-clause-white_on c).After-fill in
    subst (λ n. IsOn n p) (sym (long w)) ((are w).1.off p is)

pub returns-clause-black : goal.returns-clause-black
returns-clause-black c =
    let w = (goal.at.returns-clause-black c).After-fill in
    let rows = c.fill.new.rows in
    c.count_halves.ensures.black
    ∙ ap (λ n. count_apart n (low_halves rows) (high_halves rows)) (long w)
    ∙ score_by_rows c.args.self.now Black (low_halves rows) (high_halves rows) (are w).0 (are w).1

pub returns-clause-white : goal.returns-clause-white
returns-clause-white c =
    let w = (goal.at.returns-clause-white c).After-fill in
    let rows = c.fill.new.rows in
    c.count_halves.ensures.white
    ∙ ap (λ n. count_apart n (high_halves rows) (low_halves rows)) (long w)
    ∙ score_by_rows c.args.self.now White (high_halves rows) (low_halves rows) (are w).1 (are w).0
