use Rattle.board_points.proofs.Common.{◌≡◌, ◌∙◌, ◌<◌, ◌+◌, ◌*◌, ◌/◌, ◌%◌, ◌^◌, sym, length, slice_index, arith, rules}
use Rattle.board_points.proofs.ColumnLemmas.{others_of_all}
use Rattle.board_points.proofs.RowLemmas.{written_more}
use Rattle.board_points.proofs.HalvesLemmas.{fits_half, row_fits_half, low_rotated, high_rotated, left_low, left_high, IsPair, IsPairOfOthers, others_paired_all}
use Rattle.board_points.proofs.quick.halves.pair_rows.Goals as goal

pub overflow_mul-all : goal.overflow_mul-all
overflow_mul-all c = omega (arith, fits_half c.all_columns-columns.result (length c.args.black.now) c.requires.stones.few c.all_columns-columns.ensures.off)

pub overflow_add-all : goal.overflow_add-all
overflow_add-all c = omega (arith, fits_half c.all_columns-columns.result (length c.args.black.now) c.requires.stones.few c.all_columns-columns.ensures.off)

pub overflow_mul-area : goal.overflow_mul-area
overflow_mul-area c = omega (arith, row_fits_half c.args.white.now (length c.args.black.now) c.rows.row c.requires.stones.few c.requires.stones.white_on)

pub overflow_add-area : goal.overflow_add-area
overflow_add-area c =
    let black_fits = row_fits_half c.args.black.now (length c.args.black.now) c.rows.row c.requires.stones.few c.requires.stones.black_on in
    let white_fits = row_fits_half c.args.white.now (length c.args.black.now) c.rows.row c.requires.stones.few c.requires.stones.white_on in
    omega (arith, black_fits, white_fits)

pub returns-clause-region : goal.returns-clause-region
returns-clause-region c =
    let long = c.rows.auto.region ∙ c.requires.region in
    others_paired_all c.args.black.now c.args.white.now c.rows.region long (long ∙ sym c.requires.stones.same)
    (λ r below. c.rows.invariant.region r (omega (arith, below, long, c.rows-test.false)))

pub rows-preserved : goal.rows-preserved
rows-preserved c =
    let l = c.rows in
    let black = c.args.black.now in
    let white = c.args.white.now in
    let side = length black in
    let columns = c.all_columns-columns in
    let columns_fit = fits_half columns.result side c.requires.stones.few columns.ensures.off in
    let black_fits = row_fits_half black side l.row c.requires.stones.few c.requires.stones.black_on in
    let white_fits = row_fits_half white side l.row c.requires.stones.few c.requires.stones.white_on in
    let all = columns.result * 2 ^ 32 + columns.result in
    let all_low : all % 2 ^ 32 ≡ columns.result = omega (arith, columns_fit) in
    let all_high : all / 2 ^ 32 ≡ columns.result = omega (arith, columns_fit) in
    let all_fits : all < 2 ^ 64 = omega (arith, columns_fit) in
    let area = slice_index white l.row * 2 ^ 32 + slice_index black l.row in
    let area_low : area % 2 ^ 32 ≡ slice_index black l.row = omega (arith, black_fits) in
    let area_high : area / 2 ^ 32 ≡ slice_index white l.row = omega (arith, black_fits) in
    let area_fits : area < 2 ^ 64 = omega (arith, black_fits, white_fits) in
    let turned = c.rotate_left in
    let turned_fits : turned.result < 2 ^ 64 = search rules in
    let is_white : turned.result % 2 ^ 32 ≡ slice_index white l.row = low_rotated area turned.result area_fits turned.ensures ∙ area_high in
    let is_black : turned.result / 2 ^ 32 ≡ slice_index black l.row = high_rotated area turned.result area_fits turned.ensures ∙ area_low in
    let left = c.columns_left in
    let low = left_low all turned.result left.result all_fits turned_fits left.ensures.within left.ensures.off in
    let high = left_high all turned.result left.result all_fits turned_fits left.ensures.within left.ensures.off in
    record {
      areas = written_more (IsPair black white) l.areas l.row _
          (omega (arith, c.rows-test.true, l.auto.areas, c.requires.areas)) l.invariant.areas (area_low, area_high);
      region = written_more (IsPairOfOthers side black white) l.region l.row _
          (omega (arith, c.rows-test.true, l.auto.region, c.requires.region)) l.invariant.region (
            rw (low, is_white, all_low) (others_of_all side columns.result (slice_index white l.row) columns.ensures (omega (arith, columns_fit)) (omega (arith, white_fits))),
            rw (high, is_black, all_high) (others_of_all side columns.result (slice_index black l.row) columns.ensures (omega (arith, columns_fit)) (omega (arith, black_fits))),
          );
    }
