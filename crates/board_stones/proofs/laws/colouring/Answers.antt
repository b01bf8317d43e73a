use Rattle.board_stones.proofs.Common.{ap, refl, Grid, cell_at}
use Rattle.board_stones.proofs.GroupLemmas.{grid_of-cells, one_colouring}
use Rattle.board_stones.proofs.laws.colouring.Goals as goal

pub returns-clause-cells : goal.returns-clause-cells
returns-clause-cells c =
    λ grid all. ap (λ (g : Grid). g.cells) (grid_of-cells grid (cell_at grid) all (λ p on. refl))

pub returns-clause-same : goal.returns-clause-same
returns-clause-same c = one_colouring
