use Rattle.std.proofs.Common.{rules}
use Rattle.sgf_tree.proofs.numbered.Numbered.with_room.Goals as goal

pub returns-clause-none : goal.returns-clause-none
returns-clause-none c = λ text. record {
  sequences = c.in_ok-with_room.ensures text;
  places_are = c.in_ok-with_capacity.ensures.items;
  lasts_are = c.new.ensures.items;
}

pub returns-clause-room : goal.returns-clause-room
returns-clause-room c = search rules
