-- The vertices of GTP 2, which name points.
use Rattle.std.specs.Prelude.{ℕ, ◌-◌, List, slice_index, codes}
use Rattle.board_points.specs.declared.points.Point.{Point}
use Rattle.board_points.specs.declared.vertices.Vertex.{Vertex}

-- the letters of the columns from the left: A to Z without I
abbrev pub column_letters : List ℕ
column_letters = codes "ABCDEFGHJKLMNOPQRSTUVWXYZ"

-- A point as a vertex, on sides up to 25: the letter of its column, and its row counted from 1 at the bottom.
unfoldable pub vertex_of : Point → ℕ → Vertex
vertex_of point side = record { letter = slice_index column_letters point.col; row = side - point.row }
