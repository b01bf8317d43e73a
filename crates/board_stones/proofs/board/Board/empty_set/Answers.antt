use Rattle.board_stones.proofs.Common.{◌≡◌, ◌∙◌, slice_index, true, ap, sym, arith, subst, Empty, has_bit, is_set, Grid, IsWithout, with_columns}
use Rattle.board_stones.proofs.SweepLemmas.{painted_none, painted_more, painted_same, painted_empty}
use Rattle.board_stones.proofs.board.Board.empty_set.Goals as goal
use Rattle.board_stones.proofs.board.Board.empty_set.Goals.{then-columns-ne0, else-columns-ne0}

pub rows-init : goal.rows-init
rows-init c = sym (painted_none c.args.self.now (is_set c.args.rows.now) Empty 0 c.has_all_cells.ensures.all (λ p is. omega arith))

pub colour_columns-requires-clause-columns : goal.colour_columns-requires-clause-columns
colour_columns-requires-clause-columns c = λ k is.
    omega (arith, (c.requires.on_board (record { col = k; row = c.rows.row }) is).0, ap (λ (g : Grid). g.side) c.rows.invariant)

pub rows-preserved : goal.rows-preserved
rows-preserved c =
    let g = c.args.self.now in
    let rows = c.args.rows.now in
    let row = c.rows.row in
    let columns = slice_index rows row in
    elim c.if-columns-ne0.branch [
      | then-columns-ne0 w ↦
          w.self-is ∙ w.colour_columns.ensures
          ∙ ap (λ h. with_columns h row columns Empty) c.rows.invariant
          ∙ painted_more g (is_set rows) Empty row columns (λ p at. ap (λ r. has_bit (slice_index rows r) p.col) (sym at))
      | else-columns-ne0 w ↦
          w.self-is ∙ c.rows.invariant
          ∙ painted_same g (is_set rows) Empty row columns w.if-columns-ne0.false (λ p at. ap (λ r. has_bit (slice_index rows r) p.col) (sym at))
    ]

pub returns : goal.returns
returns c =
    subst (λ h. IsWithout c.args.self.now h (λ p. is_set c.args.rows.now p ≡ true)) (sym c.rows.invariant)
    (painted_empty c.args.self.now c.args.rows.now c.rows.row c.has_all_cells.ensures.all (omega (arith, c.rows-test.false)))
