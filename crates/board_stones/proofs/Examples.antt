-- The definitions, computed on worked examples: small boards.
use Rattle.board_stones.proofs.Common.{◌≡◌, true, false, [], ◌∷◌, refl, points, clear, play, cleared_cell, has_unreaching, Grid, empty_grid, reaches, reaching_within, spread, score_of, counts_for}
use Rattle.board_stones.specs.declared.stones.Cell.TheVariants.{Black as B, White as W, Empty as E}
use Rattle.board_stones.specs.declared.stones.Colour.TheVariants.{Black, White}

-- a black stone in the corner between two white ones
corner : Grid
corner = record { side = 3; cells = B ∷ W ∷ E ∷ W ∷ E ∷ E ∷ E ∷ E ∷ E ∷ [] }

all_but_the_corner_reach_empty : (reaching_within corner E 9).marks ≡ false ∷ true ∷ true ∷ true ∷ true ∷ true ∷ true ∷ true ∷ true ∷ []
unfolding corner reaching_within spread points
all_but_the_corner_reach_empty = refl

its_neighbours_reach_black : (reaching_within corner B 9).marks ≡ true ∷ true ∷ false ∷ true ∷ false ∷ false ∷ false ∷ false ∷ false ∷ []
unfolding corner reaching_within spread points
its_neighbours_reach_black = refl

the_corner_is_cleared : (clear corner Black).cells ≡ E ∷ W ∷ E ∷ W ∷ E ∷ E ∷ E ∷ E ∷ E ∷ []
unfolding corner reaching_within spread points reaches clear cleared_cell
the_corner_is_cleared = refl

the_corner_is_unreaching : has_unreaching corner ≡ true
unfolding corner reaching_within spread points reaches has_unreaching
the_corner_is_unreaching = refl

white_owns_the_board : score_of (clear corner Black) White ≡ 9
unfolding corner reaching_within spread points reaches clear cleared_cell score_of counts_for
white_owns_the_board = refl

nobody_owns_the_empty_board : score_of (empty_grid 3) White ≡ 0
unfolding reaching_within spread points reaches score_of counts_for
nobody_owns_the_empty_board = refl

-- one stone each
shared : Grid
shared = record { side = 3; cells = W ∷ E ∷ E ∷ E ∷ B ∷ E ∷ E ∷ E ∷ E ∷ [] }

shared_points_count_for_nobody : score_of shared White ≡ 1
unfolding shared reaching_within spread points reaches score_of counts_for
shared_points_count_for_nobody = refl

-- Black's second stone beside the first has no liberty
before_suicide : Grid
before_suicide = record { side = 3; cells = B ∷ E ∷ W ∷ W ∷ W ∷ E ∷ E ∷ E ∷ E ∷ [] }

suicide_of_two : (play before_suicide Black (record { col = 1; row = 0 })).cells ≡ E ∷ E ∷ W ∷ W ∷ W ∷ E ∷ E ∷ E ∷ E ∷ []
unfolding before_suicide reaching_within spread points reaches clear cleared_cell play
suicide_of_two = refl

suicide_of_one : (play (empty_grid 1) White (record { col = 0; row = 0 })).cells ≡ E ∷ []
unfolding reaching_within spread points reaches clear cleared_cell play
suicide_of_one = refl

-- a stone that takes the last liberty of another lives by taking it: White is cleared before Black
before_capture : Grid
before_capture = record { side = 2; cells = E ∷ W ∷ W ∷ B ∷ [] }

capture_comes_first : (play before_capture Black (record { col = 0; row = 0 })).cells ≡ B ∷ E ∷ E ∷ B ∷ []
unfolding before_capture reaching_within spread points reaches clear cleared_cell play
capture_comes_first = refl
