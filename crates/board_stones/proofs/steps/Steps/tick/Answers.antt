use Rattle.board_stones.proofs.Common.{rules}
use Rattle.board_stones.proofs.steps.Steps.tick.Goals as goal

pub returns : goal.returns
returns c = search rules
