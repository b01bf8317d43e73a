use Rattle.board_points.proofs.Common.{inl, inr, zero, suc, ◌+◌, ◌%◌, Contains, List, [], ◌∷◌, ap, arith, Point, IsOn, AreAdjacent}
use Rattle.board_points.proofs.PointLemmas.{one_point}
use Rattle.board_points.proofs.points.Point.neighbours.Goals as goal

-- the four points
abbrev four : Point → List Point
four p =
    record { col = (p.col + 255) % 256; row = p.row } ∷ record { col = p.col + 1; row = p.row }
    ∷ record { col = p.col; row = (p.row + 255) % 256 } ∷ record { col = p.col; row = p.row + 1 } ∷ []

from_place : (p q : Point) → IsOn 52 p → IsOn 52 q → Contains (four p) q → AreAdjacent p q
from_place p q on at (zero, within, is) = inr (ap (λ (r : Point). r.row) is, inr (omega (arith, ap (λ (r : Point). r.col) is)))
from_place p q on at (suc zero, within, is) = inr (ap (λ (r : Point). r.row) is, inl (omega (arith, ap (λ (r : Point). r.col) is)))
from_place p q on at (suc (suc zero), within, is) = inl (ap (λ (r : Point). r.col) is, inr (omega (arith, ap (λ (r : Point). r.row) is)))
from_place p q on at (suc (suc (suc zero)), within, is) = inl (ap (λ (r : Point). r.col) is, inl (omega (arith, ap (λ (r : Point). r.row) is)))
from_place p q on at (suc (suc (suc (suc n))), within, is) = absurd (omega (arith, within))

to_place : (p q : Point) → IsOn 52 p → IsOn 52 q → AreAdjacent p q → Contains (four p) q
to_place p q on at (inl (same, inl up)) = (3, omega arith, one_point _ q same up)
to_place p q on at (inl (same, inr down)) = (2, omega arith, one_point _ q same (omega arith))
to_place p q on at (inr (same, inl up)) = (1, omega arith, one_point _ q up same)
to_place p q on at (inr (same, inr down)) = (0, omega arith, one_point _ q (omega arith) same)

pub returns : goal.returns
returns c = λ q at. (from_place c.args.self q c.requires at, to_place c.args.self q c.requires at)
