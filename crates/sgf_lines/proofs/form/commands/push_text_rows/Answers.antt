use Rattle.sgf_lines.proofs.Common.{◌≡◌, ◌++◌, ◌==◌, length, sym, ap, subst, ◌∙◌, OnOk, eqb-false, comment_row}
use Rattle.sgf_lines.proofs.CutTexts.{of_pieces, rows-on, rows-none}
use Rattle.sgf_lines.proofs.form.commands.push_text_rows.Goals as goal

pub pieces-preserved : goal.pieces-preserved
pieces-preserved c =
    rows-on (λ b. b == 10) comment_row c.pieces.rest.now c.in-Some.end c.pieces.output.items c.push_comment_row.new.output.items _
    c.in-Some.ensures c.in_ok-push_comment_row.ensures c.pieces.invariant

pub returns : goal.returns
returns c =
    let text = c.args.text.now in
    let some : length text ≡ 0 → ⊥ = eqb-false (length text) 0 (sym c.is_empty.ensures ∙ c.if-is_empty.false) in
    let last = rows-none (λ b. b == 10) comment_row c.pieces.rest.now c.memchr.result c.memchr.ensures c.in_default.not-Some in
    let all = ap (λ bs. c.pieces.output.items ++ bs) (sym last) ∙ c.pieces.invariant ∙ ap (λ bs. c.args.output.now.items ++ bs) (sym (of_pieces text some)) in
    subst (λ bs. OnOk c.push_comment_row-2.result (c.push_comment_row-2.new.output.items ≡ bs)) all c.push_comment_row-2.ensures
