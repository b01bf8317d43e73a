use Rattle.board_past.proofs.past.list_past.ListPastPast.new.Goals as goal

pub returns : goal.returns
returns c = rw (c.copy.ensures, c.new.ensures.items)
