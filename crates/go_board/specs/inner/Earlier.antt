-- A referee's states, made from a past and from what else the referee keeps of each earlier state.
use Rattle.std.specs.Prelude.{◌≡◌, ℕ, ◌+◌, ◌-◌, ◌≤◌, Bool, true, false, Option, Some, None, List, [], ◌∷◌, if◌then◌else◌, length, reverse}
use Rattle.std.specs.Int.{from_bool}
use Rattle.board_stones.specs.declared.stones.Colour.{Colour}
use Rattle.go_board.specs.declared.referee.plays.Play.{Play}
use Rattle.board_stones.specs.declared.stones.Colour.TheVariants.{Black, White}
use Rattle.go_board.specs.declared.referee.Call.{Call}
use Rattle.go_board.specs.declared.referee.Call.TheVariants.{Stay, Pass, Stone, Setup}
use Rattle.go_board.specs.declared.referee.Mover.{Mover}
use Rattle.go_board.specs.declared.referee.Earlier.{Earlier}
use Rattle.board_stones.specs.Colour.{opponent}
use Rattle.board_past.specs.Past.{Held, PastColourings, newest_grid, present_stretch, HaveSide}
use Rattle.go_board.specs.State.{State, States, starting, oldest_of, is_over}
use Rattle.go_board.specs.Reason.{must_move, is_occupied}

-- whether a call added a colouring to the past
abbrev pub grew : Call → Bool
grew Stay = false
grew Pass = false
grew Stone = true
grew Setup = true

-- whether a call was a turn
abbrev pub turned : Call → Bool
turned Stay = false
turned Pass = true
turned Stone = true
turned Setup = false

-- the player who must move; None if either may
abbrev pub player_of : Mover → Option Colour
player_of Mover.Black = Some Black
player_of Mover.White = Some White
player_of Mover.BlackAfterPass = Some Black
player_of Mover.WhiteAfterPass = Some White
player_of Mover.BlackAfterTwoPasses = Some Black
player_of Mover.WhiteAfterTwoPasses = Some White
player_of Mover.Either = None

-- how many passes in a row were made last
abbrev pub passes_of : Mover → ℕ
passes_of Mover.BlackAfterPass = 1
passes_of Mover.WhiteAfterPass = 1
passes_of Mover.BlackAfterTwoPasses = 2
passes_of Mover.WhiteAfterTwoPasses = 2
passes_of _ = 0

-- the state with that past
abbrev pub state_of : PastColourings → Mover → ℕ → State
state_of past mover turns =
    record {
      colouring = newest_grid past;
      seen = present_stretch past;
      player = player_of mover;
      passes = passes_of mover;
      turns = turns;
    }

-- the past of the older colourings, if there are any
abbrev pub past_of_older : PastColourings → List Held → PastColourings
past_of_older past [] = past
past_of_older past (first ∷ others) = record { newest = first; older = others }

-- the past before the call at which `kept` was kept
abbrev pub past_before : PastColourings → Earlier → PastColourings
past_before past kept = if grew kept.call then past_of_older past past.older else past

-- how many turns were made before the call at which `kept` was kept
abbrev pub turns_before : ℕ → Earlier → ℕ
turns_before turns kept = turns - from_bool (turned kept.call)

-- the earlier states, newest first
abbrev pub states_before : PastColourings → ℕ → List Earlier → List State
states_before past turns [] = []
states_before past turns (kept ∷ others) =
    state_of (past_before past kept) kept.mover (turns_before turns kept)
    ∷ states_before (past_before past kept) (turns_before turns kept) others

-- the present state and the earlier states; the list of what is kept of the earlier states is oldest first
abbrev pub states_of : PastColourings → Mover → ℕ → List Earlier → States
states_of past mover turns earlier =
    record { present = state_of past mover turns; earlier = states_before past turns (reverse earlier) }

-- no reason but Repeat can forbid the turn
abbrev pub MayOnlyRepeat : State → Colour → Play → Type 0
MayOnlyRepeat state colour turn =
    (is_over state ≡ false) × (must_move state.player (opponent colour) ≡ false) × (is_occupied state turn ≡ false)

-- how many of the calls made the past grow
abbrev pub grown : List Earlier → ℕ
grown [] = 0
grown (kept ∷ others) = (if grew kept.call then 1 else 0) + grown others

-- how many of the calls were turns
abbrev pub turn_count : List Earlier → ℕ
turn_count [] = 0
turn_count (kept ∷ others) = from_bool (turned kept.call) + turn_count others

-- What a referee keeps, with its earlier states newest first. The past colourings have one side. At least as many of them are
-- older than the newest as calls made the past grow. There are as many turns as calls that were turns. The oldest state is the
-- starting one.
pub record IsRefereeKept (past : PastColourings) (mover : Mover) (turns : ℕ) (earlier : List Earlier) : Type 0 where
  pub one_side : HaveSide (newest_grid past).side past
  pub enough : grown earlier ≤ length past.older
  pub few_turns : turns ≤ length earlier
  pub counted : turn_count earlier ≡ turns
  pub from_start : oldest_of (state_of past mover turns) (states_before past turns earlier)
      ≡ starting (newest_grid past).side
