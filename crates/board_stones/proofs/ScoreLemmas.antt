-- A score by rows of words: a colour's area without the points of the other's.
use Rattle.board_stones.proofs.Common.{◌≡◌, ℕ, ◌||◌, ◌&&◌, Bool, true, not, List, [], ap, ◌∙◌, arith, common_steps, is_set, AreRowsOf, count_apart, Cell, Colour, opponent, stone_of, same_cell, Grid, cell_at, reaches, score_of, counts_for, is_either, reaches_through_own, Empty}
use Rattle.board_stones.proofs.ReachingLemmas.{Decides-reaches}
use Rattle.board_points.proofs.CountLemmas.{count_alike}

-- the points of the player's colour or reaching it, and not reaching the other's
counts_alike : (k : Colour) (c : Cell) (own other : Bool) → (c ≡ stone_of k → own ≡ true) → ((is_either c Empty (stone_of k) && own) && not (is_either c Empty (stone_of (opponent k)) && other)) ≡ (same_cell c (stone_of k) || (same_cell c Empty && (own && not other)))
counts_alike k c own other by_itself = grind (arith, common_steps)

pub score_by_rows : (g : Grid) (k : Colour) (rows others : List ℕ) → AreRowsOf g.side (reaches_through_own g Empty (stone_of k)) rows → AreRowsOf g.side (reaches_through_own g Empty (stone_of (opponent k))) others → count_apart g.side rows others ≡ score_of g k
unfolding count_apart score_of counts_for
score_by_rows g k rows others is_own is_other =
    count_alike g.side _ _
    (λ p on.
    ap (λ b. b && not (is_set others p)) (is_own.on p on)
    ∙ ap (λ b. reaches_through_own g Empty (stone_of k) p && not b) (is_other.on p on)
    ∙ counts_alike k (cell_at g p) (reaches g (stone_of k) p) (reaches g (stone_of (opponent k)) p)
    (λ own. (Decides-reaches g (stone_of k) p on).1 ([], (on, own))))
