use Rattle.board_past.proofs.Common.{◌∷◌, List, subst, Held, all_of, IsEmptied, IsTable}
use Rattle.board_past.proofs.past.print_past.PrintPast.pop_in_full.Goals as goal

pub invariant_of-self : goal.invariant_of-self
invariant_of-self c =
    let was = c.self.inside in
    let newest = was.colourings.newest in
    let left = all_of c.pop-2.new.self in
    record {
      tabled = c.pop.ensures newest left (subst (λ (held : List Held). IsTable (newest ∷ held) was.table) c.pop-2.ensures c.self.invariant.tabled);
      emptied_in = c.go_back.ensures newest left (subst (λ (held : List Held). IsEmptied (newest ∷ held) was.emptied) c.pop-2.ensures c.self.invariant.emptied_in) c.len.ensures;
      at_once = c.at_once_below-self-inside.ensures;
    }
