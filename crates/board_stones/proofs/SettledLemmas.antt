-- Grids on which stones reach empty: clearing them changes nothing, and after a move all do.
use Rattle.board_stones.proofs.Common.{◌≡◌, ◌≢◌, ◌⊎◌, inl, inr, ◌*◌, false, List, [], ◌∷◌, length, sym, ◌∙◌, ℕ, arith, true≢false, cases_Bool, not_from_Decides, common_steps, Point, IsOn, Cell, Colour, cleared_cell, clear, play, has_unreaching, opponent, stone_of, Grid, cell_at, with_cell, empty_grid, Leads, Reaches, reaches, AllReach, Empty, get_or-replicate_default}
use Rattle.board_stones.proofs.ReachingLemmas.{Decides-reaches}
use Rattle.board_stones.proofs.RuleLemmas.{side-clear, cell_at-clear, emptied, kept, others_kept, Decides-has_unreaching}
use Rattle.board_stones.proofs.GroupLemmas.{coloured_or_not, stone_of≢Empty, Reaches-Leads, grid_of-cells}

-- a point reaches a colour or not
pub reaches_or_not : (g : Grid) (k : Cell) (p : Point) → IsOn g.side p → Reaches g k p ⊎ (¬ (Reaches g k p))
reaches_or_not g k p on =
    elim (cases_Bool (reaches g k p))
    [ inl is ↦ inl ((Decides-reaches g k p on).0 is) | inr not_so ↦ inr (not_from_Decides _ (Decides-reaches g k p on) not_so) ]

-- where all stones of a colour reach empty, clearing it changes nothing
pub clear-AllReach : (g : Grid) (k : Colour) → length g.cells ≡ g.side * g.side → AllReach g k → clear g k ≡ g
unfolding clear
clear-AllReach g k all reach =
    grid_of-cells g (cleared_cell g k) all
    (λ p on.
    elim (coloured_or_not (cell_at g p) (stone_of k))
    [ inl own ↦ kept g k p on (reach p on own) | inr other ↦ others_kept g k p other ])

-- a path to an empty point is there after a clearing
path_kept : (g : Grid) (k : Colour) (own : Cell) (p : Point) (path : List Point) → Leads g own Empty p path → Leads (clear g k) own Empty p path
unfolding clear
path_kept g k own p [] way =
    (way.0, cell_at-clear g k p way.0 ∙ kept g k p way.0 (Reaches-Leads g own Empty p [] way) ∙ way.1)
path_kept g k own p (q ∷ path) way = (
  way.0,
  cell_at-clear g k p way.0 ∙ kept g k p way.0 (Reaches-Leads g own Empty p (q ∷ path) way) ∙ way.1,
  way.2,
  path_kept g k own q path way.3,
)

-- what reaches empty does so after a clearing
pub reaches_after_clear : (g : Grid) (k : Colour) (p : Point) → Reaches g Empty p → Reaches (clear g k) Empty p
reaches_after_clear g k p way = Reaches-Leads (clear g k) (cell_at g p) Empty p way.0 (path_kept g k (cell_at g p) p way.0 way.1)

-- a stone that clearing leaves was there before, and it reached empty if it has the colour
left_stone : (g : Grid) (k d : Colour) (p : Point) → IsOn g.side p → cell_at (clear g k) p ≡ stone_of d → cell_at g p ≡ stone_of d
left_stone g k d p on left = grind (arith, common_steps, cell_at-clear, coloured_or_not, emptied, kept, others_kept, reaches_or_not, stone_of≢Empty)

left_reaches : (g : Grid) (k : Colour) (p : Point) → IsOn g.side p → cell_at (clear g k) p ≡ stone_of k → Reaches g Empty p
left_reaches g k p on left =
    elim (reaches_or_not g Empty p on) [
      | inl way ↦ way
      | inr shut ↦
          absurd (stone_of≢Empty k
          (sym left ∙ cell_at-clear g k p on ∙ emptied g k p on (left_stone g k k p on left) shut))
    ]

-- once a colour is cleared, all its stones reach empty
pub AllReach-clear : (g : Grid) (k : Colour) → AllReach (clear g k) k
unfolding clear
AllReach-clear g k = λ p on left. reaches_after_clear g k p (left_reaches g k p on left)

-- where all stones of a colour reach empty, they still do once the other is cleared
pub AllReach-clear_other : (g : Grid) (k d : Colour) → AllReach g d → AllReach (clear g k) d
unfolding clear
AllReach-clear_other g k d reach = λ p on left. reaches_after_clear g k p (reach p on (left_stone g k d p on left))

stone_reaches : (g : Grid) (k : Colour) → AllReach g k → AllReach g (opponent k) → (p : Point) → IsOn g.side p → (c : Cell) → cell_at g p ≡ c → c ≢ Empty → Reaches g Empty p
stone_reaches g k own others p on c is stone = grind (arith, common_steps)

-- every stone reaches empty where those of a player and of her opponent do
pub both_reach : (g : Grid) (k : Colour) → AllReach g k → AllReach g (opponent k) → has_unreaching g ≡ false
both_reach g k own others = grind (arith, common_steps, Decides-has_unreaching, stone_reaches)

-- after a move every stone reaches empty, however the grid was before
pub settled_by_play : (g : Grid) (k : Colour) (p : Point) → has_unreaching (play g k p) ≡ false
unfolding play
settled_by_play g k p =
    let first = clear (with_cell g p (stone_of k)) (opponent k) in
    both_reach (clear first k) k (AllReach-clear first k)
    (AllReach-clear_other first k (opponent k) (AllReach-clear (with_cell g p (stone_of k)) (opponent k)))

-- where no stone is without a path to an empty point, all stones of a colour reach empty
pub AllReach-settled : (g : Grid) (k : Colour) → has_unreaching g ≡ false → AllReach g k
AllReach-settled g k settled =
    λ p on own.
    elim (reaches_or_not g Empty p on) [
      | inl way ↦ way
      | inr shut ↦
          absurd (true≢false
          (sym ((Decides-has_unreaching g).1 (p, on, (λ e. stone_of≢Empty k (sym own ∙ e)), shut)) ∙ settled))
    ]

-- nothing stands on an empty grid
pub settled-empty_grid : (side : ℕ) → has_unreaching (empty_grid side) ≡ false
settled-empty_grid side = grind (arith, common_steps, Decides-has_unreaching, get_or-replicate_default)

-- a move leaves the side
pub side_play : (g : Grid) (k : Colour) (p : Point) → (play g k p).side ≡ g.side
unfolding play
side_play g k p = side-clear _ k ∙ side-clear _ (opponent k)
