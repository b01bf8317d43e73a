-- A text without a line feed is one row.
use Rattle.sgf_lines.proofs.Common.{eqb-false, common_steps, ◌≡◌, ℕ, ◌++◌, List, OnOk, length, take, codes, ap, sym, subst, ◌∙◌, arith, not}
use Rattle.sgf_properties.specs.Text.{text_of}
use Rattle.sgf_lines.proofs.CutTexts.{joins_three, appended_last, one_row}
use Rattle.sgf_lines.proofs.form.commands.push_text_of.Goals as goal

front : (old mark text : List ℕ) (row : ℕ) → row ≡ length old → take row ((old ++ mark) ++ text) ≡ old
front old mark text row is = grind (arith, common_steps)

pub returns-then-is_none : goal.returns-then-is_none
returns-then-is_none c =
    let old = c.args.output.now.items in
    let head = c.push_bytes.new.output.items in
    let text = text_of c.args.raw.now in
    let r = c.push_bytes-then-is_none.result in
    let new = c.push_bytes-then-is_none.new.output.items in
    let last = appended_last head text c.deref.result.now c.len-start.result (c.deref.ensures.value ∙ c.in_ok-push_text.ensures.decoded) (omega (arith, c.len-start.ensures, c.push_bytes.new.output.ok.0)) in
    let some : length text ≡ 0 → ⊥ = eqb-false (length text) 0 (sym (rw last at c.is_empty.ensures) ∙ c.if-not-is_empty.true) in
    let row = one_row text c.memchr.result some (rw last at c.memchr.ensures) (c.is_none.ensures ∙ ap not c.if-is_none.true) in
    subst (λ bs. OnOk r (new ≡ old ++ bs)) (sym row)
    (joins_three r old head c.push_text.new.out.items new (codes "# ") text (codes "\n") c.in_ok-push_bytes.ensures c.in_ok-push_text.ensures.decoded c.push_bytes-then-is_none.ensures)

pub returns : goal.returns
returns c = grind (arith, common_steps, appended_last, front)
