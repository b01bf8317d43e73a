use Rattle.board_stones.proofs.Common.{◌≡◌, ◌≢◌, ℕ, true, false, List, set, bit_or, get_or, subst, ◌∙◌, or-true, false≢true, has_bit, Cell, with_cell, AreStones, grid_with, has_bit-zero}
use Rattle.board_stones.specs.declared.stones.Cell.TheVariants.{Black, White}
use Rattle.board_stones.proofs.StoneRowsLemmas.{black_added, white_added}
use Rattle.board_stones.proofs.board.Board.add.Goals as goal
use Rattle.board_stones.proofs.board.Board.add.Goals.{After-with_column-column, in-Black, in-White}

-- the words hold the stones of a board, on which the stone is added
abbrev Adds : After-with_column-column → List ℕ → List ℕ → Cell → Type 0
Adds c black white stone =
    AreStones c.self.inside.size black white × (grid_with c.self.inside.size black white ≡ with_cell c.args.self.now c.args.point stone)

both : (c : After-with_column-column)
    → Adds c (set c.self.inside.black c.args.point.row (bit_or (get_or c.self.inside.black c.args.point.row 0) c.with_column-column.result)) c.self.inside.white Black
    × Adds c c.self.inside.black (set c.self.inside.white c.args.point.row (bit_or (get_or c.self.inside.white c.args.point.row 0) c.with_column-column.result)) White
both c =
    let i = c.self.inside in
    let p = c.args.point in
    let column = c.with_column-column.result in
    let e = c.with_column-column.ensures in
    let there : has_bit column p.col ≡ true = subst (λ k. has_bit column k ≡ true) c.from.ensures (e.there ∙ or-true _) in
    let elsewhere : (k : ℕ) → k ≢ p.col → has_bit column k ≡ false = λ k other. e.elsewhere k (λ at. other (at ∙ c.from.ensures)) ∙ has_bit-zero k in
    (black_added i.size i.black i.white c.args.self.now p column c.self.invariant.0 c.self.view_is c.requires.on_board c.requires.empty c.has_all_cells.ensures.all there elsewhere, white_added i.size i.black i.white c.args.self.now p column c.self.invariant.0 c.self.view_is c.requires.on_board c.requires.empty c.has_all_cells.ensures.all there elsewhere)

pub invariant_of-self : goal.invariant_of-self
invariant_of-self c = (
  elim c.match-colour.branch [
    | in-Black w ↦ rw (w.self-inside-is, c.from-row.ensures) (both (goal.at.invariant_of-self c).After-with_column-column).0.0
    | in-White w ↦ rw (w.self-inside-is, c.from-row.ensures) (both (goal.at.invariant_of-self c).After-with_column-column).1.0
  ],
  λ is. absurd (false≢true is),
)

pub returns : goal.returns
returns c =
    elim c.match-colour.branch [
      | in-Black w ↦ rw (w.self-inside-is, w.in-Black.is, c.from-row.ensures) (both (goal.at.returns c).After-with_column-column).0.1
      | in-White w ↦ rw (w.self-inside-is, w.in-White.is, c.from-row.ensures) (both (goal.at.returns c).After-with_column-column).1.1
    ]
