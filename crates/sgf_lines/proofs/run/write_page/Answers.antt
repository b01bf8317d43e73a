-- The lines of the page were written, and no more nodes were played than there are.
use Rattle.sgf_lines.proofs.Common.{arith, common_steps, WritesLines, page_after}
use Rattle.sgf_lines.proofs.PlayCounts.{few_played}
use Rattle.sgf_lines.proofs.run.write_page.Given.{Over}
use Rattle.sgf_lines.proofs.run.write_page.Goals as goal
use Rattle.sgf_lines.proofs.run.write_page.Goals.{After-write_lines-result}

wrote : (g : Over) (c : After-write_lines-result g) → WritesLines g.F.LineForm.form (page_after c.args.cursor.at c.args.limit) (g.T.Sink.state c.args.sink.now) (g.T.Sink.state c.write_lines-result.new.sink)
    (g.F.LineKeeper.played c.write_lines-result.new.lines.keeper) c.write_lines-result.result
wrote g c = c.write_lines-result.ensures.answer

pub add-requires : goal.add-requires
add-requires g c = grind (arith, common_steps, few_played)

pub returns-clause-answer : goal.returns-clause-answer
returns-clause-answer g c = (g.F.LineKeeper.played c.write_lines-result.new.lines.keeper, omega (arith, c.add.ensures, c.plays.ensures), wrote g (goal.at.returns-clause-answer g c).After-write_lines-result)
