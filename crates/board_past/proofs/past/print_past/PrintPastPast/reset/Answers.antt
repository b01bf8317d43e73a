use Rattle.board_past.proofs.Common.{sym, subst, PastColourings, all_of, IsEmptied, IsTable}
use Rattle.board_past.proofs.past.print_past.PrintPastPast.reset.Goals as goal

pub invariant_of-self : goal.invariant_of-self
invariant_of-self c = record {
  tabled = subst (λ (past : PastColourings). IsTable (all_of past) c.reset-2.new.self) (sym c.reset.ensures) (c.reset-2.ensures _);
  emptied_in = search (subst (λ (past : PastColourings). IsEmptied (all_of past) c.clear.new.self) (sym c.reset.ensures) (c.clear.ensures _));
  at_once = c.at_once_below-self-inside.ensures;
}
