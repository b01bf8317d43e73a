-- Rows of words that have the points of a grid with certain cells, and those that reach a colour through them.
use Rattle.board_stones.proofs.Common.{◌≡◌, ◌⊎◌, inl, inr, ℕ, ◌&&◌, true, not, List, [], ◌∷◌, length, sym, ◌∙◌, arith, or_cases, or_left, or_right, and_parts, and_from, common_steps, Point, IsOn, AreAdjacent, is_set, IsAmong, IsClosed, Grows, AreRowsOf, Cell, Colour, opponent, stone_of, same_cell, Grid, cell_at, Leads, reaches, is_either, reaches_through_own, Empty, same_bools}
use Rattle.board_points.proofs.RowLemmas.{AreRowsOf-same}
use Rattle.board_stones.proofs.GridLemmas.{Decides-same_cell}
use Rattle.board_stones.proofs.ReachingLemmas.{Decides-reaches, path_by_step}

-- the cells that aren't the other player's
not_other : (k : Colour) (c : Cell) → not (same_cell c (stone_of (opponent k))) ≡ is_either c Empty (stone_of k)
not_other k c = grind (arith, common_steps)

either_is : (c one other : Cell) → is_either c one other ≡ true → (c ≡ one) ⊎ (c ≡ other)
either_is c one other is = grind (arith, common_steps, Decides-same_cell, or_cases)

pub either_first : (c one other : Cell) → c ≡ one → is_either c one other ≡ true
either_first c one other is = or_left _ _ ((Decides-same_cell c one).1 is)

either_second : (c one other : Cell) → c ≡ other → is_either c one other ≡ true
either_second c one other is = or_right _ _ ((Decides-same_cell c other).1 is)

-- the points that haven't the other player's stones
pub region_is : (g : Grid) (k : Colour) (others region : List ℕ) → AreRowsOf g.side (λ p. same_cell (cell_at g p) (stone_of (opponent k))) others → length others ≡ g.side → AreRowsOf (length others) (λ p. not (is_set others p)) region → AreRowsOf g.side (λ p. is_either (cell_at g p) Empty (stone_of k)) region
region_is g k others region is_other all is_room = grind (arith, common_steps, AreRowsOf-same, not_other)

module _ (g : Grid) (own wanted : Cell) (region seed : List ℕ) (is_room : AreRowsOf g.side (λ p. is_either (cell_at g p) own wanted) region) (is_seed : AreRowsOf g.side (λ p. same_cell (cell_at g p) wanted) seed) where
  -- a point of the region beside one that reaches the colour reaches it, too
  pub reaching_closed : (p q : Point) → AreAdjacent p q → is_set region p ≡ true → is_set region q ≡ true → reaches g wanted q ≡ true → reaches g wanted p ≡ true
  reaching_closed p q adjacent there near is =
      let on = is_room.off p there in
      let at = is_room.off q near in
      let way = (Decides-reaches g wanted q at).0 is in
      (Decides-reaches g wanted p on).1
      (elim (either_is _ own wanted (sym (is_room.on p on) ∙ there)) [
        | inr goal ↦ ([], (on, goal))
        | inl own_p ↦
            path_by_step g wanted p q on adjacent at
            (elim (either_is _ own wanted (sym (is_room.on q at) ∙ near)) [ inl own_q ↦ inl (own_q ∙ sym own_p) | inr goal ↦ inr goal ]) way
      ])

  pub seed_reaches : (p : Point) → is_set seed p ≡ true → (is_set region p ≡ true) × (reaches g wanted p ≡ true)
  seed_reaches p is = grind (arith, common_steps, Decides-reaches, Decides-same_cell, either_second)

  -- what a filling adds reaches the colour
  pub filled_reaches : (result : List ℕ) → Grows (is_set region) (is_set seed) (is_set result) → (p : Point) → is_set result p ≡ true → reaches g wanted p ≡ true
  filled_reaches result grows p is =
      (and_parts _ _
      (grows.least (λ q. is_set region q && reaches g wanted q)
      (λ q r adjacent there in_it. let both = and_parts _ _ in_it in and_from _ _ there (reaching_closed q r adjacent there both.0 both.1))
      (λ q there. let both = seed_reaches q there in and_from _ _ both.0 both.1) p is)).1

  module _ (result : List ℕ) (within : IsAmong (is_set result) (is_set region)) (kept : IsAmong (is_set seed) (is_set result)) (closed : IsClosed (is_set region) (is_set result)) (only : (p : Point) → is_set result p ≡ true → reaches g wanted p ≡ true) where
    goal_in : (p : Point) → IsOn g.side p → cell_at g p ≡ wanted → is_set result p ≡ true
    goal_in p on goal = kept p (is_seed.on p on ∙ (Decides-same_cell _ _).1 goal)

    along : (p : Point) (path : List Point) → Leads g own wanted p path → is_set result p ≡ true
    along p [] way = goal_in p way.0 way.1
    along p (q ∷ path) way = closed p q way.2 (is_room.on p way.0 ∙ either_first _ own wanted way.1) (along q path way.3)

    pub AreRowsOf-filled : AreRowsOf g.side (reaches_through_own g own wanted) result
    AreRowsOf-filled = grind (arith, common_steps, Decides-reaches, along, and_from, and_parts, either_is, goal_in, same_bools)
