use Rattle.board_past.proofs.Common.{◌≡◌, ℕ, ◌+◌, ◌*◌, ◌%◌, ◌^◌, bit_and, slice_index, ap, ◌∙◌, sym, arith, and_parts, in_base, row_within, word_number, mul-mod, has_bit-and}
use Rattle.board_past.proofs.PrintLemmas.{digit_more, in_base-more, none_within, row_within_words, sum_of_both}
use Rattle.board_past.proofs.past.print_past.print.print_within.Goals as goal
use Rattle.board_past.proofs.past.print_past.print.print_within.Goals.{then-within-ne0, else-within-ne0}

pub number_of-black-requires-clause-columns : goal.number_of-black-requires-clause-columns
number_of-black-requires-clause-columns c = λ col is.
    omega (arith, c.side-side.ensures.value, c.size.ensures, c.columns_of.ensures.off col (and_parts _ _ (sym (has_bit-and c.columns_of.result c.columns_in-within.result col) ∙ is)).0)

pub number_of-white-requires-clause-columns : goal.number_of-white-requires-clause-columns
number_of-white-requires-clause-columns c = λ col is.
    let white = c.columns_of-then-within-ne0 in
    omega (arith, c.side-side.ensures.value, c.size.ensures, white.ensures.off col (and_parts _ _ (sym (has_bit-and white.result c.columns_in-within.result col) ∙ is)).0)

pub loop-row-preserved : goal.loop-row-preserved
loop-row-preserved c =
    let m = 2 ^ 64 in
    let g = c.args.board.now in
    let row = c.loop-row.row in
    let side = c.side-side.result in
    let shift = c.small_power-base.result in
    let within = c.columns_in-within in
    let columns = slice_index c.args.points.now row in
    let digits : ℕ → ℕ = λ row. row_within g (slice_index c.args.points.now row) row in
    let base = 31 ^ g.side in
    let number = in_base base row digits in
    let side_is : g.side ≡ side = omega (arith, c.side-side.ensures.value, c.size.ensures) in
    let shift_is : shift ≡ base % m = c.small_power-base.ensures ∙ ap (λ n. 31 ^ n % m) (c.from.ensures ∙ sym side_is) in
    elim c.if-within-ne0.branch [
      | then-within-ne0 w ↦
          let white = w.columns_of-then-within-ne0 in
          let black_number = word_number side (bit_and w.columns_of.result within.result) in
          let row_is : w.in_both-print.result ≡ digits row % m =
          w.in_both-print.ensures
          ∙ ap (λ n. (n + 2 * w.number_of-white.result) % m) w.number_of-black.ensures
          ∙ ap (λ n. (black_number % m + 2 * n) % m) w.number_of-white.ensures
          ∙ sum_of_both black_number (word_number side (bit_and white.result within.result)) m
          ∙ ap (λ n. n % m) (sym (row_within_words g row within.result side w.columns_of.result white.result side_is
          (λ col low. w.columns_of.ensures.within col (omega (arith, low, side_is)))
          (λ col low. white.ensures.within col (omega (arith, low, side_is)))))
          ∙ ap (λ n. row_within g n row % m) within.ensures in
          w.print-is
          ∙ ap (λ n. (n * shift % m + w.in_both-print.result) % m) c.loop-row.invariant
          ∙ ap (λ n. (number % m * n % m + w.in_both-print.result) % m) shift_is
          ∙ ap (λ n. (number % m * (base % m) % m + n) % m) row_is
          ∙ digit_more m base number (digits row)
          ∙ ap (λ n. n % m) (sym (in_base-more base row digits))
      | else-within-ne0 w ↦
          let none : digits row ≡ 0 = ap (λ n. row_within g n row) (sym within.ensures ∙ w.if-within-ne0.false) ∙ none_within g row in
          let product : number * base ≡ base * number + digits row = omega (arith, none) in
          w.print-is
          ∙ ap (λ n. n * shift % m) c.loop-row.invariant
          ∙ ap (λ n. number % m * n % m) shift_is
          ∙ sym (mul-mod number base m)
          ∙ ap (λ n. n % m) (product ∙ sym (in_base-more base row digits))
    ]
