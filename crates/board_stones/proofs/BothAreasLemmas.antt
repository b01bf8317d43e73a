-- A path within the points of one half of the words stays in this half. So one filling finds the areas of both colours.
use Rattle.board_stones.proofs.Common.{◌≡◌, ◌≢◌, inl, inr, ℕ, ◌<◌, ◌≤◌, ◌&&◌, Bool, true, nat_lt, List, sym, ap, ◌∙◌, arith, cond, length, and_parts, and_from, cases_lt, false_from_ne_true, Decides-ltb, common_steps, Point, low_halves, high_halves, ArePaired, AreOthersPaired, is_set, IsAmong, IsClosed, Grows, AreRowsOf, same_cell, Grid, cell_at, reaches, is_either, reaches_through_own, Empty}
use Rattle.board_stones.specs.declared.stones.Cell.TheVariants.{Black as BlackStone, White as WhiteStone}
use Rattle.board_stones.specs.declared.stones.Colour.TheVariants.{Black, White}
use Rattle.board_stones.proofs.RegionLemmas.{AreRowsOf-filled, region_is, reaching_closed, seed_reaches}
use Rattle.board_points.proofs.HalvesLemmas.{shifted, unshifted, back_again, in_high, low_from, low_parts, high_from, among_by_halves, adjacent_unshifted, stays_low, stays_high, IsClosed-low, IsClosed-high, among_low, among_high}

-- the rows of the same points
moved : (side : ℕ) (test : Point → Bool) (rows other : List ℕ) → ((p : Point) → is_set other p ≡ is_set rows p) → AreRowsOf side test rows → AreRowsOf side test other
moved side test rows other same are = record { on = λ p on. same p ∙ are.on p on; off = λ p is. are.off p (sym (same p) ∙ is) }

module _ (g : Grid) (black white first region : List ℕ) (small : g.side < 32) (is_black : AreRowsOf g.side (λ p. same_cell (cell_at g p) BlackStone) black) (is_white : AreRowsOf g.side (λ p. same_cell (cell_at g p) WhiteStone) white) (all_black : length black ≡ g.side) (all_white : length white ≡ g.side) (pair : ArePaired black white first) (others : AreOthersPaired black white region) where
  region_low : AreRowsOf g.side (λ p. is_either (cell_at g p) Empty BlackStone) (low_halves region)
  region_low = region_is g Black white (low_halves region) is_white all_white others.low

  region_high : AreRowsOf g.side (λ p. is_either (cell_at g p) Empty WhiteStone) (high_halves region)
  region_high = region_is g White black (high_halves region) is_black all_black others.high

  seed_low : AreRowsOf g.side (λ p. same_cell (cell_at g p) BlackStone) (low_halves first)
  seed_low = moved g.side _ black (low_halves first) pair.low is_black

  seed_high : AreRowsOf g.side (λ p. same_cell (cell_at g p) WhiteStone) (high_halves first)
  seed_high = moved g.side _ white (high_halves first) pair.high is_white

  reaches_low : (p : Point) → is_set (low_halves first) p ≡ true → (is_set (low_halves region) p ≡ true) × (reaches g BlackStone p ≡ true)
  reaches_low = seed_reaches g Empty BlackStone (low_halves region) (low_halves first) region_low seed_low

  reaches_high : (p : Point) → is_set (high_halves first) p ≡ true → (is_set (high_halves region) p ≡ true) × (reaches g WhiteStone p ≡ true)
  reaches_high = seed_reaches g Empty WhiteStone (high_halves region) (high_halves first) region_high seed_high

  pub stones_within : IsAmong (is_set first) (is_set region)
  stones_within = among_by_halves first region (λ p is. (reaches_low p is).0) (λ p is. (reaches_high p is).0)

  gap : (p : Point) → is_set region p ≡ true → p.col ≢ 31
  gap p is at = grind (arith, common_steps, low_from, region_low)

  -- the points of the words whose points in a half reach its colour
  reaching : Point → Bool
  reaching p = cond (nat_lt p.col 32) (reaches g BlackStone p) (reaches g WhiteStone (unshifted p))

  at_low : (p : Point) → p.col < 32 → reaching p ≡ reaches g BlackStone p
  unfolding reaching
  at_low p low = ap (λ b. cond b (reaches g BlackStone p) (reaches g WhiteStone (unshifted p))) ((Decides-ltb p.col 32).1 low)

  at_high : (p : Point) → 32 ≤ p.col → reaching p ≡ reaches g WhiteStone (unshifted p)
  unfolding reaching
  at_high p from = grind (arith, common_steps, Decides-ltb, false_from_ne_true, unshifted)

  module _ (rows : List ℕ) (grows : Grows (is_set region) (is_set first) (is_set rows)) (closed : IsClosed (is_set region) (is_set rows)) where
    all_reach : (p : Point) → is_set rows p ≡ true → reaching p ≡ true
    all_reach p is =
        (and_parts _ _
        (grows.least (λ q. is_set region q && reaching q)
        (λ q r adjacent there in_it.
        let both = and_parts _ _ in_it in
        and_from _ _ there
        (elim (cases_lt q.col 32) [
          | inl low ↦
              let near = stays_low q r adjacent low (gap q there) in
              at_low q low
              ∙ reaching_closed g Empty BlackStone (low_halves region) (low_halves first) region_low seed_low q r adjacent (low_from region q low there) (low_from region r near both.0)
              (sym (at_low r near) ∙ both.1)
          | inr from ↦
              let near = stays_high q r adjacent from (gap r both.0) in
              at_high q from
              ∙ reaching_closed g Empty WhiteStone (high_halves region) (high_halves first) region_high seed_high (unshifted q) (unshifted r) (adjacent_unshifted q r from near adjacent)
              (high_from region q from there) (high_from region r near both.0) (sym (at_high r near) ∙ both.1)
        ]))
        (λ q there.
        and_from _ _ (stones_within q there)
        (elim (cases_lt q.col 32) [
          | inl low ↦ at_low q low ∙ (reaches_low q (low_from first q low there)).1
          | inr from ↦ at_high q from ∙ (reaches_high (unshifted q) (high_from first q from there)).1
        ])) p is)).1

    area_low : AreRowsOf g.side (reaches_through_own g Empty BlackStone) (low_halves rows)
    area_low =
        AreRowsOf-filled g Empty BlackStone (low_halves region) (low_halves first) region_low seed_low (low_halves rows)
        (among_low rows region grows.within) (among_low first rows grows.kept) (IsClosed-low region rows closed)
        (λ p is. let at = low_parts rows p is in sym (at_low p at.0) ∙ all_reach p at.1)

    area_high : AreRowsOf g.side (reaches_through_own g Empty WhiteStone) (high_halves rows)
    area_high =
        AreRowsOf-filled g Empty WhiteStone (high_halves region) (high_halves first) region_high seed_high (high_halves rows)
        (among_high rows region grows.within) (among_high first rows grows.kept) (IsClosed-high region rows closed)
        (λ p is. ap (reaches g WhiteStone) (sym (back_again p)) ∙ sym (at_high (shifted p) (omega arith)) ∙ all_reach (shifted p) (sym (in_high rows p) ∙ is))

    pub areas : AreRowsOf g.side (reaches_through_own g Empty BlackStone) (low_halves rows) × AreRowsOf g.side (reaches_through_own g Empty WhiteStone) (high_halves rows)
    areas = (area_low, area_high)
