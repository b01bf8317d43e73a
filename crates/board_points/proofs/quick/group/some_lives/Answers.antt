use Rattle.board_points.proofs.Common.{◌<◌, ◌^◌, slice_index, inl, inr, sym, ap, ◌∙◌, arith, rules, cases_eq, false≢true, has_bit}
use Rattle.board_points.proofs.WordLemmas.{has_bit-zero}
use Rattle.board_points.proofs.LinkedLemmas.{common_column, none_lives}
use Rattle.board_points.proofs.quick.group.some_lives.Goals as goal
use Rattle.board_points.proofs.quick.group.some_lives.Goals.{else-group-row-ne0-via-then-group-row-ne0+else-group-row-ne0-2, else-group-row-ne0-via-else-group-row-ne0}

pub returns-then-group-row-ne0-2-clause-lives : goal.returns-then-group-row-ne0-2-clause-lives
returns-then-group-row-ne0-2-clause-lives c = λ _.
    let word = slice_index c.args.group.now c.rows.row in
    let both = common_column word c.columns_with_liberty.result (search rules) c.if-group-row-ne0-2.true in
    (record { col = both.0; row = c.rows.row }, both.1, c.columns_with_liberty.ensures.from both.0 both.2)

pub rows-preserved : goal.rows-preserved
rows-preserved c = λ stone below is free.
    let row = c.rows.row in
    let word = slice_index c.args.group.now row in
    let low : word < 2 ^ 64 = search rules in
    elim (cases_eq stone.row row) [
      | inl same ↦
          (let there = ap (λ r. has_bit (slice_index c.args.group.now r) stone.col) (sym same) ∙ is in
          elim c.else-group-row-ne0.branch [
            | else-group-row-ne0-via-then-group-row-ne0+else-group-row-ne0-2 w ↦
                none_lives c.args.own.now c.args.others.now row word w.columns_with_liberty.result low w.columns_with_liberty.ensures.to w.if-group-row-ne0-2.false stone same there free
            | else-group-row-ne0-via-else-group-row-ne0 w ↦
                false≢true (sym (ap (λ n. has_bit n stone.col) w.if-group-row-ne0.false ∙ has_bit-zero stone.col) ∙ there)
          ])
      | inr other ↦ c.rows.invariant stone (omega (arith, below, other)) is free
    ]
