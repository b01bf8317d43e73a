-- The whole stretch has the colouring exactly if the part that is left to look at has it.
use Rattle.board_past.proofs.Common.{◌↔◌, reverse, Contains, stretch_of}
use Rattle.board_past.proofs.ListPastLemmas.{Has}
use Rattle.board_past.proofs.past.list_past.stretch_has.Given as goal

abbrev pub invariant-loop-i : goal.invariant-loop-i
invariant-loop-i l = Contains (stretch_of (reverse l.older)) l.board ↔ Has l.older l.board l.i
