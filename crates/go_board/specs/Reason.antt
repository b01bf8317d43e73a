-- Why a turn is illegal: the reasons as facts, in their order, and as a function that computes.
use Rattle.std.specs.Prelude.{◌≡◌, ◌≢◌, ℕ, ◌<◌, Bool, false, not, ◌&&◌, ◌==◌, if◌then◌else◌, Option, Some, None, List, Contains, codes}
use Rattle.std.specs.List.{list_any}
use Rattle.std.specs.Cmp.Lexicographic.{pointwise}
use Rattle.board_stones.specs.declared.stones.Cell.TheVariants.{Empty}
use Rattle.board_stones.specs.declared.stones.Colour.{Colour}
use Rattle.go_board.specs.declared.referee.plays.Play.{Play}
use Rattle.go_board.specs.declared.referee.plays.Play.TheVariants.{Pass, Stone}
use Rattle.go_board.specs.declared.reason.Reason.{Reason}
use Rattle.go_board.specs.declared.reason.Reason.TheVariants.{Mixed, TwoMoves, BadSetup, BadPoint, Over, Turn, Occupied, Repeat}
use Rattle.board_stones.specs.Colour.{opponent, stone_of, same_cell}
use Rattle.board_stones.specs.Grid.{Grid, cell_at}
use Rattle.board_stones.specs.Clearing.{play}
use Rattle.go_board.specs.State.{State, is_over}

-- The reason holds of the turn:
-- - Over: two passes in a row ended the game.
-- - Turn: the other player must move.
-- - Occupied: the point isn't empty.
-- - Repeat: the stone would repeat a colouring made since the last setup of stones, whoever moved then (positional superko).
-- The reasons of whole nodes hold of no turn.
abbrev pub Forbids : State → Colour → Play → Reason → Type 0
Forbids state colour turn Over = state.passes ≡ 2
Forbids state colour turn Turn = state.player ≡ Some (opponent colour)
Forbids state colour (Stone point) Occupied = cell_at state.colouring point ≢ Empty
Forbids state colour (Stone point) Repeat = Contains state.seen (play state.colouring colour point)
Forbids state colour _ _ = ⊥

-- the rank of a reason in the order of checking
abbrev pub rank_of : Reason → ℕ
rank_of Mixed = 0
rank_of TwoMoves = 1
rank_of BadSetup = 2
rank_of BadPoint = 3
rank_of Over = 4
rank_of Turn = 5
rank_of Occupied = 6
rank_of Repeat = 7

-- the reason holds of the turn, and no reason before it does
pub record IsFirstReason (state : State) (colour : Colour) (turn : Play) (reason : Reason) : Type 0 where
  pub holds : Forbids state colour turn reason
  pub first : (other : Reason) → rank_of other < rank_of reason → ¬ Forbids state colour turn other

-- Below, the same as a function that computes; the laws say that the two agree.

-- the player of that colour must move
abbrev pub must_move : Option Colour → Colour → Bool
must_move None colour = false
must_move (Some player) colour = same_cell (stone_of player) (stone_of colour)

-- the two colourings are the same
abbrev pub same_grid : Grid → Grid → Bool
same_grid grid other = (grid.side == other.side) && pointwise same_cell grid.cells other.cells

-- the turn is a stone on a point that isn't empty
abbrev pub is_occupied : State → Play → Bool
is_occupied state Pass = false
is_occupied state (Stone point) = not (same_cell (cell_at state.colouring point) Empty)

-- the turn is a stone that repeats a colouring made since the last setup of stones
abbrev pub is_repeat : State → Colour → Play → Bool
is_repeat state colour Pass = false
is_repeat state colour (Stone point) = list_any (same_grid (play state.colouring colour point)) state.seen

-- the first reason, in this order, for which a turn is illegal
abbrev pub reason_of : State → Colour → Play → Option Reason
reason_of state colour turn =
    if is_over state then Some Over
    else (if must_move state.player (opponent colour) then Some Turn
    else (if is_occupied state turn then Some Occupied
    else (if is_repeat state colour turn then Some Repeat else None)))

-- the word that is written for a reason
abbrev pub word_of : Reason → List ℕ
word_of Mixed = codes "mixed"
word_of TwoMoves = codes "two-moves"
word_of BadSetup = codes "bad-setup"
word_of BadPoint = codes "bad-point"
word_of Over = codes "over"
word_of Turn = codes "turn"
word_of Occupied = codes "occupied"
word_of Repeat = codes "repeat"
