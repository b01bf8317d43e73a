use Rattle.board_stones.proofs.Common.{rules}
use Rattle.board_stones.proofs.stones.Colour.stone.Goals as goal

pub returns-in-Black : goal.returns-in-Black
returns-in-Black c = search rules
