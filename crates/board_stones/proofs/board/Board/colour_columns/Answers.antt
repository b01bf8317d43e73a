use Rattle.board_stones.proofs.Common.{◌≡◌, ◌∙◌, get_or, set, bit_or, false≢true, rules, AreStones, grid_with, with_columns, bit_and, w64}
use Rattle.std.specs.Int.{bit_not}
use Rattle.board_stones.proofs.GridLemmas.{same_cell-eq}
use Rattle.board_stones.proofs.StoneRowsLemmas.{coloured, recoloured}
use Rattle.board_stones.proofs.board.Board.colour_columns.Goals as goal
use Rattle.board_stones.proofs.board.Board.colour_columns.Goals.{After-self, then-eq, else-eq, then-eq-2, else-eq-2}

-- the board with the new words of the row
both : (c : After-self)
    → let i = c.self.inside in
    let row = c.from-row.result in
    let black = set i.black row (bit_or (bit_and (get_or i.black row 0) (bit_not w64 c.args.columns)) c.if-eq.black) in
    let white = set i.white row (bit_or (bit_and (get_or i.white row 0) (bit_not w64 c.args.columns)) c.if-eq-2.white) in
    AreStones i.size black white × (grid_with i.size black white ≡ with_columns c.args.self.now c.args.row c.args.columns c.args.cell)
both c =
    let i = c.self.inside in
    coloured i.size i.black i.white c.args.self.now c.args.row c.from-row.result c.args.columns c.args.cell _ _ c.self.invariant.0 c.self.view_is c.from-row.ensures c.requires.row c.requires.columns
    (λ col. recoloured (get_or i.black c.from-row.result 0) c.args.columns c.if-eq.black col c.eq.result _ (search rules) c.ranges.columns.fits (c.eq.ensures ∙ same_cell-eq _ _)
    (elim c.if-eq.branch [ then-eq w ↦ rw w.if-eq.true w.black-is | else-eq w ↦ rw w.if-eq.false w.black-is ]))
    (λ col. recoloured (get_or i.white c.from-row.result 0) c.args.columns c.if-eq-2.white col c.eq-2.result _ (search rules) c.ranges.columns.fits (c.eq-2.ensures ∙ same_cell-eq _ _)
    (elim c.if-eq-2.branch [ then-eq-2 w ↦ rw w.if-eq-2.true w.white-is | else-eq-2 w ↦ rw w.if-eq-2.false w.white-is ]))

pub invariant_of-self : goal.invariant_of-self
invariant_of-self c = ((both (goal.at.invariant_of-self c).After-self).0, λ is. absurd (false≢true is))

pub returns : goal.returns
returns c = (both (goal.at.returns c).After-self).1
