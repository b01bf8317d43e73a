-- The property values of SGF FF[4] that name points. A move's value may also be a pass, such
-- as `tt`: NodeValues.antt of judged_lines defines which values are passes.
use Rattle.std.specs.Prelude.{ℕ, ◌-◌, ◌+◌, ◌&&◌, ◌==◌, nat_lt, nat_le, if◌then◌else◌, Option, Some, None, option_and_then, List, [], ◌∷◌}
use Rattle.board_points.specs.declared.points.Point.{Point}
use Rattle.board_points.specs.declared.points.Rect.{Rect}

-- the bytes of `a`, `z`, `A`, `Z` and `:`
abbrev pub small_a : ℕ
small_a = 97

abbrev pub small_z : ℕ
small_z = 122

abbrev pub capital_a : ℕ
capital_a = 65

abbrev pub capital_z : ℕ
capital_z = 90

abbrev pub colon : ℕ
colon = 58

-- the column or row, from 0, that a letter names: `a` to `z` are 0 to 25, `A` to `Z` are 26 to 51
abbrev pub letter_value : ℕ → Option ℕ
letter_value letter =
    if nat_le small_a letter && nat_le letter small_z then Some (letter - small_a)
    else (if nat_le capital_a letter && nat_le letter capital_z then Some (letter - capital_a + 26) else None)

-- the same on a board of that side: None if the column or row isn't on the board
abbrev pub coordinate : ℕ → ℕ → Option ℕ
coordinate side letter =
    option_and_then (λ index. if nat_lt index side then Some index else None) (letter_value letter)

-- the point that two letters name, the column's before the row's
abbrev pub point_of : ℕ → ℕ → ℕ → Option Point
point_of side col_letter row_letter =
    option_and_then (λ col. option_and_then (λ row. Some (record { col = col; row = row })) (coordinate side row_letter))
    (coordinate side col_letter)

-- the rectangle with these corners; None unless the first is the upper left one
abbrev pub rect_of : Point → Point → Option Rect
rect_of first last =
    if nat_le first.col last.col && nat_le first.row last.row then Some (record { first = first; last = last }) else None

-- the point of the board that a raw value names: two letters and nothing else
unfoldable pub point_value : List ℕ → ℕ → Option Point
point_value (col_letter ∷ row_letter ∷ []) side = point_of side col_letter row_letter
point_value _ side = None

-- the rectangle of the board that a raw value names: a point alone, or two points with a `:` between them
unfoldable pub rect_value : List ℕ → ℕ → Option Rect
rect_value (col_letter ∷ row_letter ∷ []) side =
    option_and_then (λ only. rect_of only only) (point_of side col_letter row_letter)
rect_value (first_col ∷ first_row ∷ between ∷ last_col ∷ last_row ∷ []) side =
    if between == colon
    then option_and_then (λ first. option_and_then (rect_of first) (point_of side last_col last_row))
    (point_of side first_col first_row)
    else None
rect_value _ side = None
