use Rattle.board_points.proofs.Common.{◌≡◌, slice_index, inl, inr, ap, sym, ◌∙◌, arith, eqb-true, cases_Bool, has_bit, is_set}
use Rattle.board_points.proofs.GrowLemmas.{row_below}
use Rattle.board_points.proofs.LinkedLemmas.{none_in_both}
use Rattle.board_points.proofs.quick.group.is_in_one_row.Goals as goal
use Rattle.board_points.proofs.quick.group.is_in_one_row.Goals.{then-row-gt0, else-row-gt0, then-row-own, else-row-own}

pub returns : goal.returns
returns c = λ zero point across is.
    let own = c.args.own.now in
    let none = none_in_both c.if-row-gt0.above c.if-row-own.below c.args.joined point.col (eqb-true _ _ zero) is in
    elim across [
      | inl up ↦
          elim c.if-row-gt0.branch [
            | then-row-gt0 w ↦
                (let row : slice_index own point.row ≡ c.if-row-gt0.above = ap (λ r. slice_index own r) (omega (arith, up)) ∙ sym w.above-is in
                ap (λ n. has_bit n point.col) row ∙ none.0)
            | else-row-gt0 w ↦ absurd (omega (arith, up, w.if-row-gt0.false))
          ]
      | inr down ↦
          elim c.if-row-own.branch [
            | then-row-own w ↦
                (let row : slice_index own point.row ≡ c.if-row-own.below = ap (λ r. slice_index own r) (sym down) ∙ sym w.below-is in
                ap (λ n. has_bit n point.col) row ∙ none.1)
            | else-row-own w ↦
                elim (cases_Bool (is_set own point)) [
                  | inl there ↦ absurd (omega (arith, row_below own point there, down, w.if-row-own.false))
                  | inr gone ↦ gone
                ]
          ]
    ]
