-- Clearing, stones that don't reach empty, and the points that count for a player, by paths.
use Rattle.board_stones.proofs.Common.{◌≡◌, ◌≢◌, ◌*◌, Bool, false, ◌&&◌, length, refl, Decides, arith, false_from_ne_true, Decides-and, Decides-or, Decides-not, Decides-like, common_steps, Point, IsOn, Colour, cleared_cell, clear, HasUnreaching, has_unreaching, stone_of, Grid, cell_at, Reaches, CountsFor, counts_for, Empty, Decides-some_point}
use Rattle.board_stones.proofs.GridLemmas.{Decides-same_cell, cell_at-grid_of, length-grid_of}
use Rattle.board_stones.proofs.ReachingLemmas.{Decides-reaches}

pub side-clear : (g : Grid) (k : Colour) → (clear g k).side ≡ g.side
unfolding clear
side-clear g k = refl

pub length-clear : (g : Grid) (k : Colour) → length (clear g k).cells ≡ g.side * g.side
unfolding clear
length-clear g k = length-grid_of g.side (cleared_cell g k)

pub cell_at-clear : (g : Grid) (k : Colour) (p : Point) → IsOn g.side p → cell_at (clear g k) p ≡ cleared_cell g k p
unfolding clear
cell_at-clear g k p on = cell_at-grid_of g.side (cleared_cell g k) p on

-- a test of what does not hold is false
pub false_from_Decides : {P : Type 0} (b : Bool) → Decides b P → (¬ P) → b ≡ false
false_from_Decides b d against = false_from_ne_true b (λ is. against (d.0 is))

pub emptied : (g : Grid) (k : Colour) (p : Point) → IsOn g.side p → cell_at g p ≡ stone_of k → (¬ (Reaches g Empty p)) → cleared_cell g k p ≡ Empty
unfolding cleared_cell
emptied g k p on stone shut = grind (arith, common_steps, Decides-reaches, Decides-same_cell, false_from_Decides)

pub kept : (g : Grid) (k : Colour) (p : Point) → IsOn g.side p → Reaches g Empty p → cleared_cell g k p ≡ cell_at g p
unfolding cleared_cell
kept g k p on way = grind (arith, common_steps, Decides-reaches)

pub others_kept : (g : Grid) (k : Colour) (p : Point) → cell_at g p ≢ stone_of k → cleared_cell g k p ≡ cell_at g p
unfolding cleared_cell
others_kept g k p other = grind (arith, common_steps, Decides-same_cell, false_from_Decides)

pub Decides-has_unreaching : (g : Grid) → Decides (has_unreaching g) (HasUnreaching g)
unfolding has_unreaching
Decides-has_unreaching g =
    Decides-like _ (λ w. (w.0, w.1, w.2.0, w.2.1)) (λ w. (w.0, w.1, (w.2, w.3)))
    (Decides-some_point g.side _ _
    (λ p on. Decides-and _ _ (Decides-not _ (Decides-same_cell _ _)) (Decides-not _ (Decides-reaches g Empty p on))))

Decides-all_three : {P Q R : Type 0} (x y z : Bool) → Decides x P → Decides y Q → Decides z R → Decides (x && (y && z)) (P × Q × R)
Decides-all_three x y z p q r = grind (arith, common_steps, Decides-and, Decides-like)

pub decides_counts_for : (g : Grid) (k : Colour) (p : Point) → IsOn g.side p → Decides (counts_for g k p) (CountsFor g k p)
unfolding counts_for
decides_counts_for g k p on = grind (arith, common_steps, Decides-all_three, Decides-not, Decides-or, Decides-reaches, Decides-same_cell)

pub ruleset play_rules = (emptied, kept, others_kept, side-clear, length-clear, cell_at-clear, Decides-has_unreaching)
