-- Small scripts, followed.
use Rattle.sgf_lines.proofs.Common.{Point, Vertex, points, cleared_cell, clear, play, empty_grid, spread, reaching_within, reaches, Command, Engine, sets_size, plays_stone, does_nothing, words, command_of, point_of, sized, shows, refused, replayed, ◌≡◌, ℕ, List, [], ◌∷◌, map, codes, Option, Some, None, refl}
use Rattle.board_stones.specs.declared.stones.Cell.TheVariants.{Black, Empty}
use Rattle.board_stones.specs.declared.stones.Colour.TheVariants.{Black as BlackPlayer}

-- rows, and their commands
abbrev commands : List (List ℕ × Command)
commands =
    (codes "boardsize 13", sets_size 13) ∷
    (codes "play B A2", plays_stone BlackPlayer (record { letter = 65; row = 2 })) ∷
    -- in either case, and with a comment
    (codes "play black j1 # the ninth column", plays_stone BlackPlayer (record { letter = 74; row = 1 })) ∷
    -- a pass and a comment do nothing
    (codes "play B pass", does_nothing) ∷
    (codes "# clear_board", does_nothing) ∷
    []

each_command : map (λ e. command_of (words e.0)) commands ≡ map (λ e. e.1) commands
each_command = refl

-- sides and vertices, and their points
abbrev named_points : List (ℕ × Vertex × Option Point)
named_points =
    -- the ninth point of the lowest row
    (19, record { letter = 74; row = 1 }, Some (record { col = 8; row = 18 })) ∷
    -- a corner, and no `C1` on that board
    (2, record { letter = 65; row = 2 }, Some (record { col = 0; row = 0 })) ∷
    (2, record { letter = 67; row = 1 }, None) ∷
    []

each_point : map (λ e. point_of e.0 e.1) named_points ≡ map (λ e. e.2) named_points
each_point = refl

-- scripts, and what an engine has after them
abbrev scripts : List (List ℕ × Engine)
scripts =
    -- a board that wasn't cleared may hold anything
    (codes "# a\nboardsize 2\n", sized 2) ∷
    -- it wants a size, and then a clear board, and a size for which there are vertices
    (codes "clear_board\nboardsize 2\n", refused) ∷
    (codes "boardsize 2\nplay B A2\n", refused) ∷
    (codes "boardsize 26\nclear_board\n", refused) ∷
    -- a point beside the board, and one that has a stone
    (codes "boardsize 2\nclear_board\nplay B C1\n", refused) ∷
    (codes "boardsize 2\nclear_board\nplay B A2\nplay W A2\n", refused) ∷
    -- a capture
    (codes "boardsize 2\nclear_board\n# a\nplay W A2\nplay B B2\nplay W pass\nplay B A1\n\n", shows (record { side = 2; cells = Empty ∷ Black ∷ Black ∷ Empty ∷ [] })) ∷
    (codes "boardsize 2\nclear_board\nplay B A2\nclear_board\n", shows (empty_grid 2)) ∷
    []

each_script : map (λ e. replayed e.0) scripts ≡ map (λ e. e.1) scripts
unfolding play clear cleared_cell points reaches reaching_within spread
each_script = refl
