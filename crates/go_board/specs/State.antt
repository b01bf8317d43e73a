-- The state of a game, and what setups and turns do to it (Tromp-Taylor; setup by SGF FF[4]).
use Rattle.std.specs.Prelude.{◌≡◌, ℕ, ◌+◌, ◌≤◌, Bool, ◌==◌, Option, Some, List, [], ◌∷◌, ◌++◌, fold, length}
use Rattle.board_stones.specs.declared.stones.Colour.{Colour}
use Rattle.board_stones.specs.declared.stones.Colour.TheVariants.{Black}
use Rattle.go_board.specs.declared.referee.plays.Play.{Play}
use Rattle.go_board.specs.declared.referee.plays.Play.TheVariants.{Pass, Stone}
use Rattle.board_stones.specs.declared.setup_op.SetupOp.{SetupOp}
use Rattle.board_stones.specs.Colour.{opponent}
use Rattle.board_points.specs.Point.{IsOn}
use Rattle.board_stones.specs.Grid.{Grid, empty_grid}
use Rattle.board_stones.specs.Clearing.{play}
use Rattle.board_stones.specs.Rectangle.{with_rectangle}

-- A state:
-- - the colouring;
-- - the colourings since the last setup of stones or since the beginning, newest first, the present one among them;
-- - the player who must move, or None if either may;
-- - how many passes in a row were made last;
-- - how many turns were made.
pub record State : Type 0 where
  pub colouring : Grid
  pub seen : List Grid
  pub player : Option Colour
  pub passes : ℕ
  pub turns : ℕ

-- the state in which a game on a board of that side begins
abbrev pub starting : ℕ → State
starting side =
    record { colouring = empty_grid side; seen = empty_grid side ∷ []; player = Some Black; passes = 0; turns = 0 }

-- The state after a setup. The setup's rectangles are coloured in order, and nothing is captured. The list of
-- colourings begins anew, so a ko doesn't reach back over a setup. Passes are 0, and the player who must
-- move is the given one, or None. If there are no rectangles, the player is set and all else stays.
abbrev pub set_up : State → List SetupOp → Option Colour → State
set_up state [] player = record state { player = player }
set_up state (op ∷ ops) player =
    let grid : Grid = fold with_rectangle state.colouring (op ∷ ops) in
    record { colouring = grid; seen = grid ∷ []; player = player; passes = 0; turns = state.turns }

-- the point of a stone is on the board of that side
abbrev pub IsPlayOn : ℕ → Play → Type 0
IsPlayOn side Pass = Unit {0}
IsPlayOn side (Stone point) = IsOn side point

-- the state after a player's turn: a pass, or a stone with its captures or its suicide
abbrev pub turned : State → Colour → Play → State
turned state colour Pass =
    record state { player = Some (opponent colour); passes = state.passes + 1; turns = state.turns + 1 }
turned state colour (Stone point) =
    let grid : Grid = play state.colouring colour point in
    record {
      colouring = grid;
      seen = grid ∷ state.seen;
      player = Some (opponent colour);
      passes = 0;
      turns = state.turns + 1;
    }

-- two passes in a row ended the game
abbrev pub is_over : State → Bool
is_over state = state.passes == 2

-- A referee's states.

-- the present state, and those before it, newest first
pub record States : Type 0 where
  pub present : State
  pub earlier : List State

-- only the state in which a game begins
abbrev pub begun : ℕ → States
begun side = record { present = starting side; earlier = [] }

-- the oldest of a state and the states before it
abbrev pub oldest_of : State → List State → State
oldest_of state [] = state
oldest_of state (earlier ∷ others) = oldest_of earlier others

-- the oldest state is the one in which a game begins
abbrev pub HaveBegun : States → Type 0
HaveBegun states = oldest_of states.present states.earlier ≡ starting states.present.colouring.side

-- the states, followed by a new present one; undo leads back from these to `states`
abbrev pub followed_by : States → State → States
followed_by states state = record { present = state; earlier = states.present ∷ states.earlier }

-- the board was the same before the newest call
abbrev pub HadSameBoard : States → Type 0
HadSameBoard states = (before : State) (earlier : List State) → states.earlier ≡ before ∷ earlier → before.colouring ≡ states.present.colouring

-- the board was the same as now after the first `depth` calls, and after each call since
abbrev pub HadSameBoardSince : States → ℕ → Type 0
HadSameBoardSince states depth =
    (later older : List State) (before : State) → states.earlier ≡ later ++ before ∷ older → depth ≤ length older
    → before.colouring ≡ states.present.colouring
