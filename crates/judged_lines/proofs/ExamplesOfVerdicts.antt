-- The verdicts of small lines, and their judged nodes, computed.
use Rattle.judged_lines.proofs.Common.{◌≡◌, ℕ, List, [], ◌∷◌, map, refl, true, false, codes, Property, Node, Line, points, point_value, rect_value, score_of, counts_for, Verdict, verdict_of, judged_nodes, NotGo, BadSize}
use Rattle.go_board.specs.declared.reason.Reason.TheVariants.{Mixed, TwoMoves, BadSetup, BadPoint, Over, Turn, Occupied, Repeat}
use Rattle.board_stones.specs.Reaching.{reaches, reaching_within, spread}
use Rattle.board_stones.specs.Clearing.{clear, play, cleared_cell}
use Rattle.board_stones.specs.Rectangle.{with_rectangle}
use Rattle.judged_lines.specs.declared.verdict.Verdict.TheVariants.{Score, Illegal}

abbrev pub props : List ℕ → List ℕ → List (List ℕ) → Property
props name value more = record { name = name; first = value; more = more }

abbrev pub prop : List ℕ → List ℕ → Property
prop name value = props name value []

abbrev pub at : ℕ → List Property → Node
at place ps = record { place = place; properties = ps }

abbrev pub black : ℕ → List ℕ → Node
black place value = at place (prop (codes "B") value ∷ [])

abbrev pub white : ℕ → List ℕ → Node
white place value = at place (prop (codes "W") value ∷ [])

abbrev pub size : ℕ → List ℕ → Node
size place value = at place (prop (codes "SZ") value ∷ [])

abbrev pub in_game : List Node → Line
in_game nodes = record { game_number = 1; nodes = nodes }

-- lines, and their verdicts
abbrev verdicts : List (List Node × Verdict)
verdicts =
    -- (;SZ[3];B[bb]) one stone owns the board
    (size 1 (codes "3") ∷ black 7 (codes "bb") ∷ [], Score 9 0 false) ∷
    -- (;SZ[3];B[bb];W[aa]) shared points count for nobody
    (size 1 (codes "3") ∷ black 7 (codes "bb") ∷ white 13 (codes "aa") ∷ [], Score 1 1 false) ∷
    -- (;SZ[1];B[aa]) suicide of one repeats
    (size 1 (codes "1") ∷ black 7 (codes "aa") ∷ [], Illegal 1 7 Repeat) ∷
    -- (;SZ[3]AB[aa]AW[ab][bb][ca]PL[B];B[ba]) suicide of two
    (at 1 (prop (codes "SZ") (codes "3") ∷ prop (codes "AB") (codes "aa") ∷ props (codes "AW") (codes "ab") ((codes "bb") ∷ (codes "ca") ∷ []) ∷ prop (codes "PL") (codes "B") ∷ []) ∷ black 32 (codes "ba") ∷ [], Score 0 9 false) ∷
    -- (;SZ[3]AB[aa]AW[ba][ab]AE[cc];B[cc]) setup stone cleared by a move far away
    (at 1 (prop (codes "SZ") (codes "3") ∷ prop (codes "AB") (codes "aa") ∷ props (codes "AW") (codes "ba") ((codes "ab") ∷ []) ∷ prop (codes "AE") (codes "cc") ∷ []) ∷ black 29 (codes "cc") ∷ [], Score 1 3 false) ∷
    -- (;SZ[4]AB[ba][ab][bc]AW[ca][db][cc][bb];B[cb];W[bb]) ko back to the setup
    (at 1 (prop (codes "SZ") (codes "4") ∷ props (codes "AB") (codes "ba") ((codes "ab") ∷ (codes "bc") ∷ []) ∷ props (codes "AW") (codes "ca") ((codes "db") ∷ (codes "cc") ∷ (codes "bb") ∷ []) ∷ []) ∷ black 39 (codes "cb") ∷ white 45 (codes "bb") ∷ [], Illegal 2 45 Repeat) ∷
    -- (;SZ[2];B[aa];W[bb];B[ba];W[ab];B[aa];W[ba];B[aa]) long cycle
    (size 1 (codes "2") ∷ black 7 (codes "aa") ∷ white 13 (codes "bb") ∷ black 19 (codes "ba") ∷ white 25 (codes "ab") ∷ black 31 (codes "aa") ∷ white 37 (codes "ba") ∷ black 43 (codes "aa") ∷ [], Illegal 7 43 Repeat) ∷
    -- (;SZ[53]) no such size
    (size 1 (codes "53") ∷ [], BadSize) ∷
    -- (;GM[2]SZ[53]) another game first
    (at 1 (prop (codes "GM") (codes "2") ∷ prop (codes "SZ") (codes "53") ∷ []) ∷ [], NotGo) ∷
    -- (;GM[x]) game is no number
    (at 1 (prop (codes "GM") (codes "x") ∷ []) ∷ [], NotGo) ∷
    -- (;SZ[19:19]) rectangular
    (size 1 (codes "19:19") ∷ [], BadSize) ∷
    -- (;SZ[3];C[x]SZ[2]) size of a later node
    (size 1 (codes "3") ∷ at 7 (prop (codes "C") (codes "x") ∷ prop (codes "SZ") (codes "2") ∷ []) ∷ [], Score 0 0 false) ∷
    -- (;SZ[3];B[];W[]) two passes
    (size 1 (codes "3") ∷ black 7 [] ∷ white 11 [] ∷ [], Score 0 0 true) ∷
    -- (;SZ[3];B[];W[];B[aa]) after two passes
    (size 1 (codes "3") ∷ black 7 [] ∷ white 11 [] ∷ black 15 (codes "aa") ∷ [], Illegal 3 15 Over) ∷
    -- (;SZ[3];B[];W[];AE[aa];W[bb]) setup ends passes
    (size 1 (codes "3") ∷ black 7 [] ∷ white 11 [] ∷ at 15 (prop (codes "AE") (codes "aa") ∷ []) ∷ white 22 (codes "bb") ∷ [], Score 0 9 false) ∷
    -- (;SZ[3];B[];W[];PL[W];W[aa]) player keeps passes
    (size 1 (codes "3") ∷ black 7 [] ∷ white 11 [] ∷ at 15 (prop (codes "PL") (codes "W") ∷ []) ∷ white 21 (codes "aa") ∷ [], Illegal 3 21 Over) ∷
    -- (;SZ[3]PL[W];W[aa]) player set up
    (at 1 (prop (codes "SZ") (codes "3") ∷ prop (codes "PL") (codes "W") ∷ []) ∷ white 12 (codes "aa") ∷ [], Score 0 9 false) ∷
    -- (;SZ[3];B[aa];PL[b]) other spelling of a player
    (size 1 (codes "3") ∷ black 7 (codes "aa") ∷ at 13 (prop (codes "PL") (codes "b") ∷ []) ∷ [], Illegal 2 13 BadSetup) ∷
    -- (;SZ[9];W[aa]) white first
    (size 1 (codes "9") ∷ white 7 (codes "aa") ∷ [], Illegal 1 7 Turn) ∷
    -- (;B[aa]W[bb]) moves of both
    (at 1 (prop (codes "B") (codes "aa") ∷ prop (codes "W") (codes "bb") ∷ []) ∷ [], Illegal 1 1 TwoMoves) ∷
    -- (;SZ[3]AB[aa];B[bb]PL[W]) mixed
    (at 1 (prop (codes "SZ") (codes "3") ∷ prop (codes "AB") (codes "aa") ∷ []) ∷ at 13 (prop (codes "B") (codes "bb") ∷ prop (codes "PL") (codes "W") ∷ []) ∷ [], Illegal 1 13 Mixed) ∷
    -- (;SZ[3]AB[zz]B[bb][zz]) mixed before two moves
    (at 1 (prop (codes "SZ") (codes "3") ∷ prop (codes "AB") (codes "zz") ∷ props (codes "B") (codes "bb") ((codes "zz") ∷ []) ∷ []) ∷ [], Illegal 1 1 Mixed) ∷
    -- (;SZ[3]AB[ca:aa]) no rectangle
    (at 1 (prop (codes "SZ") (codes "3") ∷ prop (codes "AB") (codes "ca:aa") ∷ []) ∷ [], Illegal 1 1 BadSetup) ∷
    -- (;SZ[3]AB[aa:ca]) a row
    (at 1 (prop (codes "SZ") (codes "3") ∷ prop (codes "AB") (codes "aa:ca") ∷ []) ∷ [], Score 9 0 false) ∷
    -- (;SZ[9];B[jj]) no point
    (size 1 (codes "9") ∷ black 7 (codes "jj") ∷ [], Illegal 1 7 BadPoint) ∷
    -- (;SZ[3];B[];W[];B[zz]) no point after two passes
    (size 1 (codes "3") ∷ black 7 [] ∷ white 11 [] ∷ black 15 (codes "zz") ∷ [], Illegal 3 15 BadPoint) ∷
    -- (;SZ[3];B[aa];W[aa]) occupied
    (size 1 (codes "3") ∷ black 7 (codes "aa") ∷ white 13 (codes "aa") ∷ [], Illegal 2 13 Occupied) ∷
    -- (;SZ[3];B[aa];B[aa]) turn before occupied
    (size 1 (codes "3") ∷ black 7 (codes "aa") ∷ black 13 (codes "aa") ∷ [], Illegal 2 13 Turn) ∷
    -- (;SZ[3];B[tt];W[]) letters are a pass
    (size 1 (codes "3") ∷ black 7 (codes "tt") ∷ white 13 [] ∷ [], Score 0 0 true) ∷
    []

each_verdict : map (λ e. verdict_of e.0) verdicts ≡ map (λ e. e.1) verdicts
unfolding reaching_within spread points reaches clear cleared_cell play score_of counts_for with_rectangle point_value rect_value
each_verdict = refl

-- lines, and the places of their judged nodes
abbrev judged : List (List Node × List ℕ)
judged =
    -- (;SZ[1];B[];W[]) judged whole
    (size 1 (codes "1") ∷ black 7 [] ∷ white 11 [] ∷ [], 1 ∷ 7 ∷ 11 ∷ []) ∷
    -- (;SZ[1];B[aa];W[]) judged to the illegal node
    (size 1 (codes "1") ∷ black 7 (codes "aa") ∷ white 13 [] ∷ [], 1 ∷ 7 ∷ []) ∷
    -- (;GM[2];B[aa]) not judged
    (at 1 (prop (codes "GM") (codes "2") ∷ []) ∷ black 7 (codes "aa") ∷ [], []) ∷
    []

each_judged : map (λ e. map (λ (n : Node). n.place) (judged_nodes (in_game e.0))) judged ≡ map (λ e. e.1) judged
unfolding reaching_within spread points reaches clear cleared_cell play score_of counts_for with_rectangle point_value rect_value
each_judged = refl
