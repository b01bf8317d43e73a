use Rattle.board_past.proofs.past.list_past.ListPastPast.restart.Goals as goal

pub returns-clause-ok : goal.returns-clause-ok
returns-clause-ok c = c.add.ensures.ok
