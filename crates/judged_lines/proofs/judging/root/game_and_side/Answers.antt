-- Answers for speed: a property that is passed over, or held in vain, is refused sooner.
use Rattle.judged_lines.proofs.Common.{rules}
use Rattle.judged_lines.proofs.judging.root.game_and_side.Goals as goal

pub loop-property-preserved : goal.loop-property-preserved
loop-property-preserved c = search rules

pub returns-clause-game : goal.returns-clause-game
returns-clause-game c = search rules
