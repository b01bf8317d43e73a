use Rattle.board_past.proofs.Common.{◌≡◌, ◌+◌, ◌*◌, ◌%◌, ◌^◌, ap, ◌∙◌, sym, arith, in_base, row_number, word_number}
use Rattle.board_past.proofs.PrintLemmas.{digit_more, in_base-more, print_by_rows, row_by_words, sum_of_both}
use Rattle.board_past.proofs.past.print_past.print.print_of.Goals as goal

pub loop-row-preserved : goal.loop-row-preserved
loop-row-preserved c =
    let m = 2 ^ 64 in
    let g = c.args.board.now in
    let row = c.loop-row.row in
    let side = c.side-side.result in
    let black_number = word_number side c.columns_of.result in
    let base = 31 ^ g.side in
    let number = in_base base row (row_number g) in
    let side_is : g.side ≡ side = omega (arith, c.side-side.ensures.value, c.size.ensures) in
    let shift : c.small_power-base.result ≡ base % m = c.small_power-base.ensures ∙ ap (λ n. 31 ^ n % m) (c.from.ensures ∙ sym side_is) in
    let row_is : c.in_both.result ≡ row_number g row % m =
    c.in_both.ensures
    ∙ ap (λ n. (n + 2 * c.number_of-white.result) % m) c.number_of-black.ensures
    ∙ ap (λ n. (black_number % m + 2 * n) % m) c.number_of-white.ensures
    ∙ sum_of_both black_number (word_number side c.columns_of-in-loop-row.result) m
    ∙ ap (λ n. n % m) (sym (row_by_words g row side c.columns_of.result c.columns_of-in-loop-row.result side_is
    (λ col low. c.columns_of.ensures.within col (omega (arith, low, side_is)))
    (λ col low. c.columns_of-in-loop-row.ensures.within col (omega (arith, low, side_is))))) in
    ap (λ n. (n * c.small_power-base.result % m + c.in_both.result) % m) c.loop-row.invariant
    ∙ ap (λ n. (number % m * n % m + c.in_both.result) % m) shift
    ∙ ap (λ n. (number % m * (base % m) % m + n) % m) row_is
    ∙ digit_more m base number (row_number g row)
    ∙ ap (λ n. n % m) (sym (in_base-more base row (row_number g)))

pub returns : goal.returns
returns c =
    let g = c.args.board.now in
    let all : c.loop-row.row ≡ g.side = omega (arith, c.loop-row-test.false, c.loop-row.auto.row-end, c.side-side.ensures.value, c.size.ensures) in
    c.loop-row.invariant
    ∙ ap (λ n. in_base (31 ^ g.side) n (row_number g) % 2 ^ 64) all
    ∙ sym (print_by_rows g c.has_all_cells.ensures.all)
