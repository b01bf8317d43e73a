-- What the rows around a point tell of a stone, once it is on the grid.
use Rattle.board_stones.proofs.Common.{◌≡◌, inl, inr, ℕ, List, [], length, sym, ◌∙◌, subst, Empty, Point, IsOn, AreRowsOf, Colour, opponent, stone_of, same_cell, Grid, cell_at, with_cell, Reaches, AllLive}
use Rattle.board_points.specs.Glance.{KeepsLiberty, LeavesAllAlive}
use Rattle.board_stones.proofs.GridLemmas.{Decides-same_cell, cell_at-with_cell_elsewhere}
use Rattle.board_stones.proofs.GroupLemmas.{neither_stone}
use Rattle.board_stones.proofs.ReachingLemmas.{path_by_step}
use Rattle.board_points.proofs.GlanceLemmas.{apart}

-- what the rows tell of the grid once the stone is on it
module _ (g : Grid) (k : Colour) (p : Point) (own others : List ℕ) (side : length own ≡ g.side) (on : IsOn g.side p)
    (is_own : AreRowsOf g.side (λ q. same_cell (cell_at g q) (stone_of k)) own)
    (is_others : AreRowsOf g.side (λ q. same_cell (cell_at g q) (stone_of (opponent k))) others) where
  abbrev after : Grid
  after = with_cell g p (stone_of k)

  kept_reaches : (q : Point) → IsOn g.side q → KeepsLiberty own others p q → Reaches after Empty q
  kept_reaches q on_q is =
      let z = is.0 in
      let on_z = subst (λ n. IsOn n z) side is.1.0 in
      let empty = neither_stone k (cell_at g z) (sym (is_own.on z on_z) ∙ is.1.1) (sym (is_others.on z on_z) ∙ is.1.2) in
      path_by_step after Empty q z on_q is.3 on_z (inr (cell_at-with_cell_elsewhere g p z (stone_of k) on on_z is.2 ∙ empty)) ([], (on_z, cell_at-with_cell_elsewhere g p z (stone_of k) on on_z is.2 ∙ empty))

  pub all_live : LeavesAllAlive own others p → AllLive (with_cell g p (stone_of k)) k p
  all_live is = (
    λ stone. elim is.lives [
      | inl way ↦ kept_reaches p on way
      | inr (q, set, next, way) ↦
          let on_q = is_own.off q set in
          let same = cell_at-with_cell_elsewhere g p q (stone_of k) on on_q (apart p q next) ∙ (Decides-same_cell _ _).0 (sym (is_own.on q on_q) ∙ set) in
          path_by_step after Empty p q on next on_q (inl (same ∙ sym stone)) (kept_reaches q on_q way)
    ],
    λ q on_q next stone.
        let set = is_others.on q on_q ∙ (Decides-same_cell _ _).1 (sym (cell_at-with_cell_elsewhere g p q (stone_of k) on on_q (apart p q next)) ∙ stone) in
        kept_reaches q on_q (elim next [ inl column ↦ is.across q set column | inr row ↦ is.along q set row ]),
  )
