use Rattle.sgf_lines.proofs.Common.{◌≡◌, Some, slice_get, ◌*◌, ◌+◌, [], ◌++◌, append-nil, rules, subst, arith, Point, points, commands_at, AreAppended, slice_get-points, joins}
use Rattle.sgf_lines.proofs.form.commands.push_row.Goals as goal
use Rattle.sgf_lines.proofs.form.commands.push_row.Goals.{then-eq+in_ok-push_stone, else-eq}

pub columns-preserved : goal.columns-preserved
columns-preserved c = λ before was.
    let g = c.args.board.now in
    let p : Point = record { col = c.columns.col; row = c.args.row } in
    let i = c.args.row * g.side + c.columns.col in
    let at : slice_get (points g.side) i ≡ Some p = (slice_get-points g.side i p).1 ((omega (arith, c.columns-test.true, c.size.ensures), c.requires.row), omega arith) in
    let one : i + 1 ≡ c.args.row * g.side + (c.columns.col + 1) = omega arith in
    let pushed : c.if-eq.output.items ≡ c.columns.output.items ++ commands_at g c.args.colour p = elim c.if-eq.branch [
      | then-eq+in_ok-push_stone w ↦ rw w.output-is (search rules)
      | else-eq w ↦ rw w.output-is (search (rules, append-nil))
    ] in
    subst (λ n. AreAppended g c.args.colour n before c.if-eq.output.items) one
    (joins (commands_at g c.args.colour) before [] (points g.side) i p c.columns.output.items c.if-eq.output.items at (c.columns.invariant before was) pushed)
