use Rattle.board_points.proofs.Common.{◌≡◌, ◌+◌, ◌-◌, ◌/◌, ◌%◌, ◌<◌, ◌≤◌, ◌^◌, ◌∙◌, ap, sym, subst, bit_and, w64, count_ones, length, get_or, arith, rules, bit_not, low_halves, high_halves}
use Rattle.std.proofs.Math.ListN.{get_or-map}
use Rattle.board_points.proofs.CountLemmas.{IsCounted, counted_more, counted_all}
use Rattle.board_points.proofs.HalvesLemmas.{low_rotated, high_rotated, left_low, left_high, ones_by_halves}
use Rattle.board_points.proofs.quick.halves.count_halves.Goals as goal

pub rows-preserved : goal.rows-preserved
rows-preserved c =
    let areas = c.args.areas.now in
    let row = c.rows.row in
    let n = length areas in
    let on : row < n = omega (arith, c.rows-test.true) in
    let small : n ≤ 52 = omega (arith, c.requires.few) in
    let word = get_or areas row 0 in
    let low_word : word < 2 ^ 64 = search rules in
    let low_is : get_or (low_halves areas) row 0 ≡ word % 2 ^ 32 = get_or-map (λ w. w % 2 ^ 32) areas row 0 in
    let high_is : get_or (high_halves areas) row 0 ≡ word / 2 ^ 32 = get_or-map (λ w. w / 2 ^ 32) areas row 0 in
    let low_fits : word % 2 ^ 32 < 2 ^ 64 = omega arith in
    let high_fits : word / 2 ^ 32 < 2 ^ 64 = omega (arith, low_word) in
    let alone = c.columns_left-alone in
    let turned = c.rotate_left in
    let turned_fits : turned.result < 2 ^ 64 = search rules in
    let alone_fits : alone.result < 2 ^ 64 = search rules in
    let low : alone.result % 2 ^ 32 ≡ bit_and (word % 2 ^ 32) (bit_not w64 (word / 2 ^ 32)) =
    left_low word turned.result alone.result low_word turned_fits alone.ensures.within alone.ensures.off
    ∙ ap (λ w. bit_and (word % 2 ^ 32) (bit_not w64 w)) (low_rotated word turned.result low_word turned.ensures) in
    let high : alone.result / 2 ^ 32 ≡ bit_and (word / 2 ^ 32) (bit_not w64 (word % 2 ^ 32)) =
    left_high word turned.result alone.result low_word turned_fits alone.ensures.within alone.ensures.off
    ∙ ap (λ w. bit_and (word / 2 ^ 32) (bit_not w64 w)) (high_rotated word turned.result low_word turned.ensures) in
    let both : count_ones alone.result ≡ count_ones (alone.result / 2 ^ 32) + count_ones (alone.result % 2 ^ 32) = ones_by_halves alone.result in
    let one = c.rows.in_one in
    let black = c.rows.in_black in
    let black_too = c.rows.invariant.black_too in
    record {
      black = subst (λ k. IsCounted n (low_halves areas) (high_halves areas) (row + 1) (black + k)) (sym (ap count_ones low))
          (counted_more n (low_halves areas) (high_halves areas) row _ _ black c.rows.invariant.black small on low_is high_is low_fits high_fits c.requires.black_on);
      white = subst (IsCounted n (high_halves areas) (low_halves areas) (row + 1)) (omega (arith, both, ap count_ones high, black_too))
          (counted_more n (high_halves areas) (low_halves areas) row _ _ (one - black) c.rows.invariant.white small on high_is low_is high_fits low_fits c.requires.white_on);
      black_too = omega (arith, both, black_too);
    }

pub returns-clause-black : goal.returns-clause-black
returns-clause-black c =
    let areas = c.args.areas.now in
    counted_all (length areas) (low_halves areas) (high_halves areas) c.rows.row c.rows.in_black c.rows.invariant.black (omega (arith, c.rows-test.false, c.rows.auto.row-end))

pub returns-clause-white : goal.returns-clause-white
returns-clause-white c =
    let areas = c.args.areas.now in
    counted_all (length areas) (high_halves areas) (low_halves areas) c.rows.row (c.rows.in_one - c.rows.in_black) c.rows.invariant.white (omega (arith, c.rows-test.false, c.rows.auto.row-end))
