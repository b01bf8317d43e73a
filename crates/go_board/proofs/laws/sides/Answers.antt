use Rattle.go_board.proofs.TurnLemmas.{side-set_up, side-turned}
use Rattle.go_board.proofs.laws.sides.Goals as goal

pub returns-clause-setup : goal.returns-clause-setup
returns-clause-setup c = side-set_up

pub returns-clause-turn : goal.returns-clause-turn
returns-clause-turn c = side-turned
