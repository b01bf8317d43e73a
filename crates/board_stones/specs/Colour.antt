-- Black and White, and what stands on a point.
use Rattle.std.specs.Prelude.{Bool, true, false}
use Rattle.board_stones.specs.declared.stones.Colour.{Colour}
use Rattle.board_stones.specs.declared.stones.Colour.TheVariants.{Black as BlackPlayer, White as WhitePlayer}
use Rattle.board_stones.specs.declared.stones.Cell.{Cell}
use Rattle.board_stones.specs.declared.stones.Cell.TheVariants.{Black, White, Empty}

-- the other player's colour
abbrev pub opponent : Colour → Colour
opponent BlackPlayer = WhitePlayer
opponent WhitePlayer = BlackPlayer

-- a point with a stone of that colour
abbrev pub stone_of : Colour → Cell
stone_of BlackPlayer = Black
stone_of WhitePlayer = White

-- whether two points have the same colour
abbrev pub same_cell : Cell → Cell → Bool
same_cell Black Black = true
same_cell White White = true
same_cell Empty Empty = true
same_cell _ _ = false
