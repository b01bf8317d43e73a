use Rattle.board_past.proofs.past.print_past.PrintPastPast.push.Goals as goal

pub returns-clause-ok : goal.returns-clause-ok
returns-clause-ok c = c.add.ensures.ok
