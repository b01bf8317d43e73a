use Rattle.board_past.proofs.Common.{◌∷◌, List, length, inl, refl, ap, subst, arith, Fits-of_lt, Held, all_of, IsEmptied, IsTable}
use Rattle.board_past.proofs.AtOnceLemmas.{asleep_if_room, at_once_less}
use Rattle.board_past.proofs.TableLemmas.{asleep_less, few_all}
use Rattle.board_past.proofs.past.print_past.PrintPastPast.pop.Goals as goal

pub invariant_of-self-2 : goal.invariant_of-self-2
invariant_of-self-2 c =
    let was = c.self.inside in
    let newest = was.colourings.newest in
    let left = all_of c.pop_lone_stone.new.self in
    let older = c.if-not-pop_lone_stone.ensures.taken_back refl in
    let held = subst (λ (all : List Held). IsTable (newest ∷ all) was.table) older c.self.invariant.tabled in
    record {
      tabled = inl (asleep_less was.table newest left (asleep_if_room (newest ∷ left) was.table was.at_once_below held (omega (arith, c.if-self-eq0.false)) c.self.invariant.at_once.asleep));
      emptied_in = c.go_back.ensures newest left (subst (λ (held : List Held). IsEmptied (newest ∷ held) was.emptied) older c.self.invariant.emptied_in) c.len.ensures;
      at_once = at_once_less was.colourings c.pop_lone_stone.new.self was.table was.at_once_below (ap (λ (xs : List Held). length xs) older) (c.if-not-pop_lone_stone.ensures.settled refl) (c.if-not-pop_lone_stone.ensures.not_full refl) c.self.invariant.at_once;
    }

pub overflow_cast-len : goal.overflow_cast-len
overflow_cast-len c =
    Fits-of_lt (omega (arith, c.len.ensures, few_all (all_of c.self.inside.colourings) c.self.inside.table c.self.invariant.tabled, ap (λ (xs : List Held). length xs) (c.if-not-pop_lone_stone.ensures.taken_back refl)))
