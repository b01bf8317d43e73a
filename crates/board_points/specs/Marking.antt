-- A set of points of a square grid.
use Rattle.std.specs.Prelude.{ℕ, Bool, false, List, map, count_by, slice_index_or, ◌*◌, true, replicate, slice_set}
use Rattle.board_points.specs.Point.{Point, index_of, points}

-- the side, and for each point whether it is marked: row by row from the top, from left to right
pub record Marking : Type 0 where
  pub side : ℕ
  pub marks : List Bool

-- whether a point is marked
abbrev pub is_marked : Marking → Point → Bool
is_marked marking point = slice_index_or marking.marks (index_of marking.side point) false

-- how many points are marked
abbrev pub marked_count : Marking → ℕ
marked_count marking = count_by (λ mark. mark) marking.marks

-- the marking of the points that pass a test
abbrev pub marking_of : ℕ → (Point → Bool) → Marking
marking_of side test = record { side = side; marks = map test (points side) }

-- no point is marked
abbrev pub no_marks : ℕ → Marking
no_marks side = record { side = side; marks = replicate (side * side) false }

-- one more point is marked
abbrev pub with_mark : Marking → Point → Marking
with_mark marking point = record marking { marks = slice_set marking.marks (index_of marking.side point) true }
