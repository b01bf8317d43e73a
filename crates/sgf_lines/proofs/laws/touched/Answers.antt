-- The lines touch the nodes one after the other, and a page plays no more of them.
use Rattle.judged_lines.proofs.Touched.{touched_all, judged_touched, judged_few}
use Rattle.sgf_lines.proofs.Pages.{on_page}
use Rattle.sgf_lines.proofs.laws.touched.Goals as goal

pub returns-clause-places : goal.returns-clause-places
returns-clause-places c = λ games text spelled. touched_all games (c.places_rise.ensures games text spelled)

pub returns-clause-plays : goal.returns-clause-plays
returns-clause-plays c = λ games text spelled options ls is. let p = on_page games options ls is in judged_few games (c.places_rise.ensures games text spelled) p.0 ls p.1 p.2

pub returns-clause-page : goal.returns-clause-page
returns-clause-page c = judged_touched
