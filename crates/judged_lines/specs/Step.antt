-- A node's step: the state of the game after the node, or the first reason why the node is illegal. Setup is by SGF FF[4],
-- turns by Tromp-Taylor. The order of the reasons is this project's choice.
use Rattle.std.specs.Prelude.{Option, Some, None, List, [], ◌∷◌, ℕ, Result, Ok, Err}
use Rattle.sgf_outline.specs.Tree.{Node}
use Rattle.board_stones.specs.declared.stones.Colour.{Colour}
use Rattle.board_stones.specs.declared.setup_op.SetupOp.{SetupOp}
use Rattle.go_board.specs.declared.referee.plays.Play.{Play}
use Rattle.go_board.specs.State.{State, set_up, turned}
use Rattle.go_board.specs.declared.reason.Reason.TheVariants.{Mixed, TwoMoves, BadSetup, BadPoint}
use Rattle.go_board.specs.declared.reason.Reason.{Reason}
use Rattle.go_board.specs.Reason.{reason_of}
use Rattle.judged_lines.specs.NodeContents.{Move, Stones, moves, stones, players}
use Rattle.judged_lines.specs.NodeValues.{move_value, operations, last_player}

-- the side of the board
abbrev pub side_in : State → ℕ
side_in state = state.colouring.side

-- the state after a turn, or the reason why the referee refuses it
abbrev pub turn_step : State → Colour → Play → Option Reason → Result State Reason
turn_step state colour play (Some reason) = Err reason
turn_step state colour play None = Ok (turned state colour play)

-- a move's step: its value must be a play that the referee allows
abbrev pub move_step : State → Colour → Option Play → Result State Reason
move_step state colour None = Err BadPoint
move_step state colour (Some play) = turn_step state colour play (reason_of state colour play)

-- a setup's step: each value must name a rectangle of the board or a player; the last player counts
abbrev pub setup_step : State → Option (List SetupOp) → Option (Option Colour) → Result State Reason
setup_step state None last = Err BadSetup
setup_step state (Some ops) None = Err BadSetup
setup_step state (Some ops) (Some player) = Ok (set_up state ops player)

-- the step by what the node holds: its moves, its stones and its players
abbrev pub step_by : State → List Move → List Stones → List (List ℕ) → Result State Reason
step_by state [] [] [] = Ok state
step_by state (move ∷ more) (value ∷ values) players = Err Mixed
step_by state (move ∷ more) [] (player ∷ players) = Err Mixed
step_by state (move ∷ other ∷ more) [] [] = Err TwoMoves
step_by state (move ∷ []) [] [] = move_step state move.player (move_value move.raw (side_in state))
step_by state [] (value ∷ values) players =
    setup_step state (operations (value ∷ values) (side_in state)) (last_player None players)
step_by state [] [] (player ∷ players) = setup_step state (Some []) (last_player None (player ∷ players))

abbrev pub step : State → Node → Result State Reason
step state node = step_by state (moves node) (stones node) (players node)
