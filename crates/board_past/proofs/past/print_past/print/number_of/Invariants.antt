-- The number is that of the bytes so far; `left` has the others.
use Rattle.board_past.proofs.Common.{◌≡◌, ℕ, ◌+◌, ◌*◌, ◌%◌, ◌^◌, bit_at, word_number}
use Rattle.board_past.proofs.past.print_past.print.number_of.Given as goal

abbrev pub invariant-loop-byte : goal.invariant-loop-byte
invariant-loop-byte l = record {
  rest : (i : ℕ) → bit_at l.left i ≡ bit_at l.initial.left (8 * l.byte + i);
  same : l.number ≡ word_number (8 * l.byte) l.initial.left % 2 ^ 64;
}
