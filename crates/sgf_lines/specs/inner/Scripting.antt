-- The commands of a line, in pieces: first those that begin a game on its board, then those of each node whose step was taken.
use Rattle.std.specs.Prelude.{ℕ, suc, ◌+◌, ◌==◌, min, Bool, false, nat_lt, if◌then◌else◌, List, [], ◌∷◌, ◌++◌, length, map, option_copied}
use Rattle.std.specs.List.{concat, position_or_len}
use Rattle.board_points.specs.declared.vertices.TheConstants.{MAX_VERTEX_SIDE}
use Rattle.board_stones.specs.Clearing.{has_unreaching}
use Rattle.board_stones.specs.Grid.{Grid}
use Rattle.go_board.specs.State.{IsPlayOn}
use Rattle.judged_lines.specs.JudgedGames.{GameKind, not_go, bad_size, board}
use Rattle.judged_lines.specs.Walk.{LegalNode}
use Rattle.sgf_lines.specs.Script.{text_rows, comment_text, colouring_commands, play_command, legal_script, leaves_unreaching, board_commands}
use Rattle.judged_lines.specs.declared.judging.step.Effect.{Effect}
use Rattle.judged_lines.specs.declared.judging.step.Effect.TheVariants.{Nothing, Stones as stones_set, Play as one_play}
use Rattle.judged_lines.specs.declared.judging.step.LegalStep.{LegalStep}
use Rattle.sgf_lines.specs.inner.Pieces.{PiecesState, no_pieces, pushed, closed, cut}

-- the commands that an effect adds; `grid` is the board after it
abbrev pub effect_script : Grid → Effect → List ℕ
effect_script grid Nothing = []
effect_script grid stones_set = colouring_commands grid
effect_script grid (one_play colour play) = play_command grid.side colour play

-- what a legal step adds
abbrev pub step_script : Grid → LegalStep → List ℕ
step_script grid step = text_rows (comment_text (option_copied step.comment)) ++ effect_script grid step.effect

-- the play is on the board
abbrev pub IsPlayable : ℕ → Effect → Type 0
IsPlayable side Nothing = Unit {0}
IsPlayable side stones_set = Unit {0}
IsPlayable side (one_play colour play) = IsPlayOn side play

-- whether a setup leaves a stone without a liberty
abbrev pub is_unreaching : Grid → Effect → Bool
is_unreaching grid Nothing = false
is_unreaching grid stones_set = has_unreaching grid
is_unreaching grid (one_play colour play) = false

-- the commands so far, and how many pieces stand before the first setup that leaves a stone without a liberty
pub record ScriptState : Type 0 where
  pub text : PiecesState
  pub said : ℕ

-- A script without commands. It stands before any line, for a line that isn't judged, or for a line whose board has more columns
-- than vertices have letters.
abbrev pub no_script : ScriptState
no_script = record { text = no_pieces; said = 0 }

-- the script with one more piece; a script without commands stays without
abbrev pub said_on : ScriptState → Bool → List ℕ → ScriptState
said_on old unreaching more =
    if length old.text.pieces == 0 then old
    else record { text = closed (pushed old.text more); said = if old.said == length old.text.pieces then (if unreaching then old.said else old.said + 1) else old.said }

-- the script cut back to the first `count` legal nodes
abbrev pub script_back : ℕ → ScriptState → ScriptState
script_back count old = record { text = cut (count + 1) old.text; said = min (count + 1) old.said }

-- what is written of a script: its whole text; but nothing if some setup leaves a stone without a liberty
abbrev pub script_text : ScriptState → List ℕ
script_text script = if nat_lt script.said (length script.text.pieces) then [] else concat script.text.pieces ++ script.text.begun

abbrev pub script_along : ℕ → List LegalNode → ScriptState
script_along side taken =
    if nat_lt MAX_VERTEX_SIDE side then no_script
    else record { text = record { pieces = board_commands side ∷ map legal_script taken; begun = [] }; said = suc (position_or_len leaves_unreaching taken) }

-- the script of a game of this kind, after these nodes were legal
abbrev pub script_of : GameKind → List LegalNode → ScriptState
script_of not_go taken = no_script
script_of bad_size taken = no_script
script_of (board side) taken = script_along side taken
