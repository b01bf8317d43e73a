use Rattle.board_past.proofs.Common.{refl, sym, ap, subst, ◌∙◌, take, get_or, arith, false≢true, take_more, All-get_or, has_bit, Grid, Change, IsChangeOn}
use Rattle.board_past.proofs.ChangesLemmas.{IsMade, after-side, made-whole, made-more, made-passed}
use Rattle.board_past.proofs.past.print_past.changes.take_back.Goals as goal
use Rattle.board_past.proofs.past.print_past.changes.take_back.Goals.{then-has_column, else-has_column}

none : Change
none = record { row = 0; black = 0; white = 0 }

pub each-init : goal.each-init
each-init c = record {
  board = refl;
  come = λ row low gone. absurd (false≢true (sym gone ∙ c.all_columns-left.ensures.within row (omega (arith, low, c.from.ensures, c.side.ensures.value, c.size.ensures))));
  none = λ row is has. has;
}

pub returns-then-left-eq0 : goal.returns-then-left-eq0
returns-then-left-eq0 c =
    let i = c.each.change-index in
    let changes = c.args.changes.now in
    made-whole c.args.board.now c.each.board c.has_all_cells.ensures.all (take i changes) c.each.left c.each.invariant changes i refl c.if-left-eq0.true

pub set_row-requires : goal.set_row-requires
unfolding none
set_row-requires c =
    let side = ap (λ (g : Grid). g.side) c.each.invariant.board ∙ after-side c.args.board.now (take c.each.change-index c.args.changes.now) in
    let on = All-get_or (IsChangeOn c.args.board.now.side) c.args.changes.now c.each.change-index none c.each-test.true c.requires in
    record { row = rw side on.row; black = rw side on.black; white = rw side on.white }

pub each-preserved : goal.each-preserved
unfolding none
each-preserved c =
    let i = c.each.change-index in
    let changes = c.args.changes.now in
    let g = c.args.board.now in
    let change = get_or changes i none in
    let all = c.has_all_cells.ensures.all in
    let on = All-get_or (IsChangeOn g.side) changes i none c.each-test.true c.requires in
    let there = ap (has_bit c.each.left) (sym c.from-row.ensures) ∙ sym c.has_column.ensures in
    let next = c.if-has_column in
    subst (λ cs. IsMade g next.board cs next.left) (sym (take_more changes i none c.each-test.true))
    (elim next.branch [
      | then-has_column w ↦
          let left = w.without_column-left in
          made-more g c.each.board all (take i changes) c.each.left c.each.invariant next.board next.left change (there ∙ w.if-has_column.true) (w.board-is ∙ w.set_row.ensures)
          (ap (λ n. has_bit n change.row) w.left-is ∙ ap (has_bit left.result) (sym c.from-row.ensures) ∙ left.ensures.there)
          (λ row other. ap (λ n. has_bit n row) w.left-is ∙ left.ensures.elsewhere row (λ at. other (at ∙ c.from-row.ensures)))
      | else-has_column w ↦
          rw (w.board-is, w.left-is) (made-passed g c.each.board all (take i changes) c.each.left c.each.invariant change on.row (there ∙ w.if-has_column.false))
    ])
