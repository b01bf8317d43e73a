use Rattle.std.proofs.Common.{◌%◌, ne_eqb, arith, rules}
use Rattle.board_past.proofs.past.print_past.at_once_below.Goals as goal

pub returns : goal.returns
returns c = record {
  settled = search rules;
  asleep = λ some. omega (arith, some);
  not_full = λ count from below. ne_eqb (count % 128) 127 (λ is. absurd (omega (arith, is, below, from, c.len-steps.ensures)));
}
