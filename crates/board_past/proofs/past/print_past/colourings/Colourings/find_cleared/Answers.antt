use Rattle.board_past.proofs.Common.{common_steps, rules, arith}
use Rattle.board_points.proofs.LinkedLemmas.{none_in_front}
use Rattle.board_past.proofs.past.print_past.colourings.Colourings.find_cleared.Goals as goal

pub find_cleared-requires-clause-none : goal.find_cleared-requires-clause-none
find_cleared-requires-clause-none c = record {
  all = search rules;
  none = λ p. none_in_front c.from.result 52 c.args.words.now p c.requires.none;
}

pub returns-clause-stone : goal.returns-clause-stone
returns-clause-stone c = grind (arith, common_steps)
