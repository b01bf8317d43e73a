-- What raw values say on a board of a given side (SGF FF[4], "Move", "Stone", "Color").
use Rattle.std.specs.Prelude.{ℕ, Bool, ◌==◌, ◌||◌, ◌&&◌, nat_le, if◌then◌else◌, Option, Some, None, option_map, option_and_then, List, [], ◌∷◌, length, codes, bytes_eq}
use Rattle.board_stones.specs.declared.stones.Colour.{Colour}
use Rattle.board_stones.specs.declared.stones.Colour.TheVariants.{Black, White}
use Rattle.go_board.specs.declared.referee.plays.Play.{Play}
use Rattle.go_board.specs.declared.referee.plays.Play.TheVariants.{Pass, Stone}
use Rattle.board_stones.specs.declared.setup_op.SetupOp.{SetupOp}
use Rattle.board_points.specs.Values.{point_value, rect_value}
use Rattle.judged_lines.specs.NodeContents.{Stones}

-- a pass is the empty value, or `tt` on a board of side 19 or less
abbrev pub is_pass : List ℕ → ℕ → Bool
is_pass raw side = (length raw == 0) || (bytes_eq raw (codes "tt") && nat_le side 19)

-- the play of a move: a pass, or a stone on a point of the board
abbrev pub move_value : List ℕ → ℕ → Option Play
move_value raw side = if is_pass raw side then Some Pass else option_map Stone (point_value raw side)

-- the player that a colour value names
abbrev pub player_value : List ℕ → Option Colour
player_value raw =
    if bytes_eq raw (codes "B") then Some Black
    else (if bytes_eq raw (codes "W") then Some White else None)

-- the operation that a value of AB, AW or AE names: it colours a rectangle of the board
abbrev pub operation : Stones → ℕ → Option SetupOp
operation value side = option_map (λ area. record { cell = value.cell; area = area }) (rect_value value.raw side)

-- the operations that values of AB, AW and AE name, in order; None if one of the values names no rectangle of the board
abbrev pub operations : List Stones → ℕ → Option (List SetupOp)
operations [] side = Some []
operations (value ∷ values) side =
    option_and_then (λ op. option_map (λ ops. op ∷ ops) (operations values side)) (operation value side)

-- the last player named, or `before` if there are no values; None if one of the values names no player
abbrev pub last_player : Option Colour → List (List ℕ) → Option (Option Colour)
last_player before [] = Some before
last_player before (raw ∷ raws) = option_and_then (λ colour. last_player (Some colour) raws) (player_value raw)
