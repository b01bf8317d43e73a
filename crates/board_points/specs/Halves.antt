-- Two sets of points in one list of words: each word has a row of the one in its low half, and a row of the other in its high half.
use Rattle.std.specs.Prelude.{◌≡◌, ℕ, ◌/◌, ◌%◌, ◌^◌, ◌<◌, IsTrue, not, List, length, map}
use Rattle.board_points.specs.Point.{Point, IsOn}
use Rattle.board_points.specs.Rows.{is_set, AreRowsOf}

-- the rows in the low halves
abbrev pub low_halves : List ℕ → List ℕ
low_halves rows = map (λ word. word % 2 ^ 32) rows

-- the rows in the high halves
abbrev pub high_halves : List ℕ → List ℕ
high_halves rows = map (λ word. word / 2 ^ 32) rows

-- two sets of points of a board whose rows fit into half a word each
pub record AreOnSmallBoard (black white : List ℕ) : Type 0 where
  pub few : length black < 32
  pub same : length white ≡ length black
  pub black_on : (point : Point) → IsTrue (is_set black point) → IsOn (length black) point
  pub white_on : (point : Point) → IsTrue (is_set white point) → IsOn (length black) point

-- the low halves have the points of the set `black`, and the high halves have those of the set `white`
pub record ArePaired (black white rows : List ℕ) : Type 0 where
  pub low : (point : Point) → is_set (low_halves rows) point ≡ is_set black point
  pub high : (point : Point) → is_set (high_halves rows) point ≡ is_set white point

-- the low halves have the points of a board that aren't in the set `white`, and the high halves have those that aren't in `black`
pub record AreOthersPaired (black white rows : List ℕ) : Type 0 where
  pub low : AreRowsOf (length white) (λ point. not (is_set white point)) (low_halves rows)
  pub high : AreRowsOf (length black) (λ point. not (is_set black point)) (high_halves rows)
