use Rattle.board_past.proofs.Common.{◌≡◌, ◌≢◌, ◌<◌, ◌||◌, ◌==◌, not, false, ◌∷◌, [], length, length-append, ap, sym, ◌∙◌, arith, rules, or_parts, get_or_past, play}
use Rattle.board_past.proofs.ChangesLemmas.{kept_none, kept_more, kept_same, kept_rest, row_kept}
use Rattle.board_past.proofs.past.print_past.changes.keep_played.Goals as goal
use Rattle.board_past.proofs.past.print_past.changes.keep_played.Goals.{then-all, else-all, then-apart, else-apart}

pub loop-row-init : goal.loop-row-init
loop-row-init c = record {
  kept = λ k move. kept_none c.args.board.now (play c.args.board.now k c.args.point) c.args.all c.args.changes.now.items;
  room = omega (arith, c.requires.room);
}

pub loop-row-preserved : goal.loop-row-preserved
loop-row-preserved c =
    let was = c.loop-row.invariant in
    let low : c.loop-row.row < c.args.board.now.side = elim c.if-all.branch [
      | then-all w ↦ omega (arith, w.rows-is)
      | else-all w ↦ omega (arith, w.rows-is, c.requires.stone.1.on_board, c.requires.stone.1.cleared.few)
    ] in
    elim c.if-apart.branch [
      | then-apart w ↦
          let adds = w.keep_row.ensures.row in
          rw w.changes-is (record {
            kept = λ k move. kept_more (was.kept k move) adds;
            room = omega (arith, was.room, w.keep_row.ensures.room, ap length adds.added, length-append c.loop-row.changes.items (adds.change ∷ []));
          })
      | else-apart w ↦
          let parts : ((c.args.all || (c.loop-row.row == c.args.point.row)) ≡ false) × (not (c.columns_in.result == 0) ≡ false) = or_parts _ _ w.if-apart.false in
          let still : (c.args.all ≡ false) × ((c.loop-row.row == c.args.point.row) ≡ false) = or_parts _ _ parts.0 in
          let other : c.loop-row.row ≢ c.args.point.row = search (rules, still.1) in
          let none : c.columns_in.result ≡ 0 = search (rules, parts.1) in
          rw w.changes-is (record {
            kept = λ k move. kept_same (was.kept k move) still.0 (row_kept c.args.board.now k c.args.point c.args.cleared.now c.loop-row.row move low other (sym c.columns_in.ensures ∙ none));
            room = omega (arith, was.room);
          })
    ]

pub returns : goal.returns
returns c = λ k move.
    let rows : c.loop-row.row ≡ c.if-all.rows = omega arith in
    let side = c.args.board.now.side in
    elim c.if-all.branch [
      | then-all w ↦ kept_rest (c.loop-row.invariant.kept k move) side (omega (arith, rows, w.rows-is)) (λ r rest low. absurd (omega (arith, rows, w.rows-is, rest, low)))
      | else-all w ↦ kept_rest (c.loop-row.invariant.kept k move) side (omega (arith, rows, w.rows-is, move.on_board, move.cleared.few))
          (λ r rest low. (w.if-all.false, row_kept c.args.board.now k c.args.point c.args.cleared.now r move low (λ at. omega (arith, rows, w.rows-is, rest, at)) (get_or_past c.args.cleared.now r 0 (omega (arith, rows, w.rows-is, rest)))))
    ]
