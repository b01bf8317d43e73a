use Rattle.board_points.proofs.Common.{◌≡◌, ◌<◌, ◌+◌, length, false, inl, inr, bit_and, bit_or, sym, ap, ◌∙◌, arith, get_or, and_cases, or_parts, not-true, false≢true, false_from_ne_true, AreAdjacent, has_bit, IsInOrBeside, IsNextRow, Decides-ltb}
use Rattle.board_points.proofs.WordLemmas.{has_bit-and, has_bit-or}
use Rattle.board_points.proofs.GrowLemmas.{row_below}
use Rattle.board_points.proofs.GlanceLemmas.{apart}
use Rattle.board_points.proofs.quick.glance.stands_apart.Goals as goal

is_above : (c : goal.After-has_column) → IsNextRow c.args.own.now c.args.others.now c.from-row.result 1 c.next_row-own_above.result.0 c.next_row-own_above.result.1
is_above c =
    c.next_row-own_above.ensures c.from-row.result 1 (λ is. omega (arith, (Decides-ltb 0 c.from-row.result).0 is))
    (λ no q up. absurd (false≢true (sym no ∙ (Decides-ltb 0 c.from-row.result).1 (omega (arith, up)))))

is_below : (c : goal.After-has_column) → IsNextRow c.args.own.now c.args.others.now c.from-row.result 3 c.next_row-own_below.result.0 c.next_row-own_below.result.1
is_below c =
    c.next_row-own_below.ensures c.from-row.result 3 (λ _. omega arith)
    (λ no q down. false_from_ne_true _ (λ set.
    false≢true (sym no ∙ (Decides-ltb (c.from-row.result + 1) (length c.args.own.now)).1 (omega (arith, down, row_below c.args.others.now q set, c.requires.rows.same)))))

pub returns : goal.returns
returns c = λ none.
    let p = c.args.point in
    let others = c.args.others.now in
    let at = c.from-row.ensures in
    let above = c.next_row-own_above.result in
    let below = c.next_row-own_below.result in
    let touched = c.columns_beside-touched in
    let closed = bit_and above.0 below.0 in
    let low : p.col < 64 = omega (arith, c.requires.on_board.0, c.requires.rows.few) in
    let no_column : has_bit (bit_or touched.result closed) p.col ≡ false = ap (has_bit (bit_or touched.result closed)) (sym c.from.ensures) ∙ sym c.has_column.ensures ∙ not-true _ none in
    let parts = or_parts _ _ (sym (has_bit-or touched.result closed p.col) ∙ no_column) in
    let untouched : ¬ (IsInOrBeside above.1 (get_or others c.from-row.result 0) below.1 p.col) = λ is. false≢true (sym parts.0 ∙ touched.ensures.to p.col low is) in
    record {
      lives = elim (and_cases _ _ (sym (has_bit-and above.0 below.0 p.col) ∙ parts.1)) [
        | inl free ↦
            let f = (is_above c).is_free p.col c.requires.on_board.0 free (false_from_ne_true _ (λ is. untouched (inl is))) in
            let near : AreAdjacent p f.0 = inl (sym f.1.0, inr (omega (arith, f.1.1, at))) in
            inl (f.0, f.2, apart p f.0 near, near)
        | inr free ↦
            let f = (is_below c).is_free p.col c.requires.on_board.0 free (false_from_ne_true _ (λ is. untouched (inr (inl is)))) in
            let near : AreAdjacent p f.0 = inl (sym f.1.0, inl (omega (arith, f.1.1, at))) in
            inl (f.0, f.2, apart p f.0 near, near)
      ];
      along = λ q set next. absurd (untouched (inr (inr (q.col, next.1, ap (λ r. has_bit (get_or others r 0) q.col) (at ∙ next.0) ∙ set))));
      across = λ q set next.
          elim next.1 [
            | inl row ↦ absurd (untouched (inr (inl (ap (has_bit below.1) next.0 ∙ (is_below c).has_others q (omega (arith, at, row)) set))))
            | inr row ↦ absurd (untouched (inl (ap (has_bit above.1) next.0 ∙ (is_above c).has_others q (omega (arith, at, row)) set)))
          ];
    }
