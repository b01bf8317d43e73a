use Rattle.board_past.proofs.Common.{rules, arith, Fits-of_lt, all_of}
use Rattle.board_past.proofs.TableLemmas.{few_all}
use Rattle.board_past.proofs.past.print_past.PrintPastPast.restart.Goals as goal

pub overflow_add-stretch_start : goal.overflow_add-stretch_start
overflow_add-stretch_start c =
    Fits-of_lt (omega (arith, c.stretch_start.ensures.below, few_all (all_of c.self.inside.colourings) c.self.inside.table c.self.invariant.tabled))

pub invariant_of-self : goal.invariant_of-self
invariant_of-self c = search rules
