use Rattle.board_past.proofs.Common.{sym, subst, PastColourings, all_of, IsEmptied, IsTable}
use Rattle.board_past.proofs.past.print_past.PrintPastPast.new.Goals as goal

pub invariant_of-result : goal.invariant_of-result
invariant_of-result c =
    record {
      tabled = subst (λ (past : PastColourings). IsTable (all_of past) c.in_ok-table.table) (sym c.in_ok-colourings.ensures) (c.in_ok-table.ensures _);
      emptied_in = subst (λ (past : PastColourings). IsEmptied (all_of past) c.new-3.result) (sym c.in_ok-colourings.ensures) (c.new-3.ensures _);
      at_once = c.at_once_below.ensures;
    }
