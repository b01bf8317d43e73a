use Rattle.board_past.proofs.Common.{◌≡◌, ◌+◌, ◌-◌, ◌*◌, ◌≤◌, ◌%◌, ◌^◌, get_or, ap, sym, ◌∙◌, arith, rules, w64, trailing_zeros, word_number, add-mod-mod, NUMBERS}
use Rattle.board_past.proofs.ByteLemmas.{low_byte}
use Rattle.board_past.proofs.PrintLemmas.{byte_less, byte_more, digit_more, no_column, one_column, shifted_number}
use Rattle.board_points.proofs.ColumnLemmas.{lowest_left}
use Rattle.board_past.proofs.past.print_past.print.number_of.Goals as goal

pub returns-then-columns-eq0 : goal.returns-then-columns-eq0
returns-then-columns-eq0 c =
    ap (λ n. n % 2 ^ 64) (sym (no_column c.args.side))
    ∙ ap (λ n. word_number c.args.side n % 2 ^ 64) (sym c.if-columns-eq0.true)

pub overflow_sub-from : goal.overflow_sub-from
overflow_sub-from c =
    let found = lowest_left c.args.columns c.args.columns c.if-columns-eq0.false (search rules) (λ k is. is) in
    omega (arith, c.from.ensures, c.requires.columns _ found.0)

pub overflow_sub-from-then-without_column-eq0 : goal.overflow_sub-from-then-without_column-eq0
overflow_sub-from-then-without_column-eq0 c =
    let found = lowest_left c.args.columns c.args.columns c.if-columns-eq0.false (search rules) (λ k is. is) in
    omega (arith, c.from.ensures, c.requires.columns _ found.0)

pub returns-then-without_column-eq0 : goal.returns-then-without_column-eq0
returns-then-without_column-eq0 c =
    let word = c.args.columns in
    let side = c.args.side in
    let col = trailing_zeros w64 word in
    let left = c.without_column in
    let found = lowest_left word word c.if-columns-eq0.false (search rules) (λ k is. is) in
    c.small_power.ensures
    ∙ ap (λ n. 31 ^ (n - 1 - col) % 2 ^ 64) c.from.ensures
    ∙ ap (λ n. n % 2 ^ 64) (sym (one_column side word left.result col (c.requires.columns col found.0) found.0 left.ensures.there left.ensures.elsewhere c.if-without_column-eq0.true))

pub loop-byte-preserved : goal.loop-byte-preserved
loop-byte-preserved c =
    let m = 2 ^ 64 in
    let left = c.loop-byte.left in
    let shifted = c.args.columns * 2 ^ (8 * c.div_ceil-bytes.result - c.args.side) % m in
    let number = word_number (8 * c.loop-byte.byte) shifted in
    let digit = word_number 8 left in
    let before = number % m * (31 ^ 8 % m) % m in
    record {
      rest = byte_less shifted left c.loop-byte.byte c.loop-byte.invariant.rest;
      same = ap (λ n. (n * c.small_power-in-loop-byte.result % m + get_or NUMBERS (left % 256) 0) % m) c.loop-byte.invariant.same
          ∙ ap (λ n. (number % m * n % m + get_or NUMBERS (left % 256) 0) % m) c.small_power-in-loop-byte.ensures
          ∙ ap (λ n. (before + n) % m) (low_byte left) ∙ sym (add-mod-mod before digit m)
          ∙ digit_more m (31 ^ 8) number digit
          ∙ ap (λ n. n % m) (sym (byte_more shifted left c.loop-byte.byte c.loop-byte.invariant.rest));
    }

pub returns : goal.returns
returns c =
    let m = 2 ^ 64 in
    let side = c.args.side in
    let bytes = c.div_ceil-bytes.result in
    let up = 8 * bytes - side in
    let enough : (side ≤ 8 * bytes) × (8 * bytes ≤ 56) = omega (arith, c.div_ceil-bytes.ensures, c.requires.side) in
    let all : 8 * c.loop-byte.byte ≡ up + side = omega (arith, c.loop-byte-test.false, c.loop-byte.auto.byte-end, enough) in
    c.loop-byte.invariant.same
    ∙ ap (λ n. word_number n (c.args.columns * 2 ^ up % m) % m) all
    ∙ ap (λ n. n % m) (shifted_number side up c.args.columns (omega (arith, enough)))
