-- Colouring a rectangle of points, as one operation of a setup does (SGF FF[4]).
use Rattle.std.specs.Prelude.{◌&&◌, Bool, nat_le, if◌then◌else◌}
use Rattle.board_points.specs.declared.points.Point.{Point}
use Rattle.board_points.specs.declared.points.Rect.{Rect}
use Rattle.board_stones.specs.declared.setup_op.SetupOp.{SetupOp}
use Rattle.board_stones.specs.Grid.{Grid, cell_at, grid_of}

-- the point is in the rectangle
abbrev pub is_in : Rect → Point → Bool
is_in area point =
    (nat_le area.first.col point.col && nat_le point.col area.last.col)
    && (nat_le area.first.row point.row && nat_le point.row area.last.row)

-- the grid with the rectangle's points coloured, whatever stood there
unfoldable pub with_rectangle : Grid → SetupOp → Grid
with_rectangle grid op = grid_of grid.side (λ point. if is_in op.area point then op.cell else cell_at grid point)
