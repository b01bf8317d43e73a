-- The records of small lines, computed.
use Rattle.sgf_lines.proofs.Common.{◌≡◌, ℕ, List, [], ◌∷◌, map, refl, digits, Node, points, point_value, rect_value, vertex_of, clear, play, cleared_cell, has_unreaching, reaches, reaching_within, spread, with_rectangle, score_of, counts_for, Form, record_of, codes}
use Rattle.sgf_lines.specs.declared.options.Form.TheVariants.{List as list_form, Gtp as gtp_form}
use Rattle.judged_lines.proofs.ExamplesOfVerdicts.{props, prop, at, black, white, size, in_game}

-- forms and lines, and their records
abbrev records : List (Form × List Node × List ℕ)
records =
    -- (;SZ[3];B[bb]) row of a score
    (list_form, size 1 (codes "3") ∷ black 7 (codes "bb") ∷ [], codes "7 1 2 score 9 0 open\n") ∷
    -- (;SZ[3]AB[ca:aa]) row of an illegal line
    (list_form, at 1 (prop (codes "SZ") (codes "3") ∷ prop (codes "AB") (codes "ca:aa") ∷ []) ∷ [], codes "1 1 1 illegal 1 1 bad-setup\n") ∷
    -- (;SZ[3];B[bb]) script of a stone
    (gtp_form, size 1 (codes "3") ∷ black 7 (codes "bb") ∷ [], codes "# 7 1 2 score 9 0 open\nboardsize 3\nclear_board\nplay B B2\n\n") ∷
    -- (;SZ[3]C[x];B[aa]C[y];W[aa]C[z]) script up to the illegal node
    (gtp_form, at 1 (prop (codes "SZ") (codes "3") ∷ prop (codes "C") (codes "x") ∷ []) ∷ at 11 (prop (codes "B") (codes "aa") ∷ prop (codes "C") (codes "y") ∷ []) ∷ at 21 (prop (codes "W") (codes "aa") ∷ prop (codes "C") (codes "z") ∷ []) ∷ [], codes "# 21 1 3 illegal 2 21 occupied\nboardsize 3\nclear_board\n# x\n# y\nplay B A3\n\n") ∷
    -- (;SZ[1]C[a<LF><LF>b]) comment with an empty line
    (gtp_form, at 1 (prop (codes "SZ") (codes "1") ∷ prop (codes "C") (codes "a\n\nb") ∷ []) ∷ [], codes "# 1 1 1 score 0 0 open\nboardsize 1\nclear_board\n# a\n# \n# b\n\n") ∷
    -- (;SZ[3];B[];W[];AE[aa];W[bb]) script of a later setup
    (gtp_form, size 1 (codes "3") ∷ black 7 [] ∷ white 11 [] ∷ at 15 (prop (codes "AE") (codes "aa") ∷ []) ∷ white 22 (codes "bb") ∷ [], codes "# 22 1 5 score 0 9 open\nboardsize 3\nclear_board\nplay B pass\nplay W pass\nclear_board\nplay W B2\n\n") ∷
    -- (;SZ[3]AB[aa]AW[cc]AB[bc]) script of a setup
    (gtp_form, at 1 (prop (codes "SZ") (codes "3") ∷ prop (codes "AB") (codes "aa") ∷ prop (codes "AW") (codes "cc") ∷ prop (codes "AB") (codes "bc") ∷ []) ∷ [], codes "# 1 1 1 score 2 1 open\nboardsize 3\nclear_board\nclear_board\nplay B A3\nplay B B1\nplay W C1\n\n") ∷
    -- (;SZ[3]AB[aa]AW[ba][ab]AE[cc];B[cc]) no commands for a stone without liberty
    (gtp_form, at 1 (prop (codes "SZ") (codes "3") ∷ prop (codes "AB") (codes "aa") ∷ props (codes "AW") (codes "ba") ((codes "ab") ∷ []) ∷ prop (codes "AE") (codes "cc") ∷ []) ∷ black 29 (codes "cc") ∷ [], codes "# 29 1 2 score 1 3 open\n\n") ∷
    -- (;GM[2]SZ[26]) no commands for another game
    (gtp_form, at 1 (prop (codes "GM") (codes "2") ∷ prop (codes "SZ") (codes "26") ∷ []) ∷ [], codes "# 1 1 1 unjudged game\n\n") ∷
    []

each_record : map (λ e. record_of e.0 (in_game e.1)) records ≡ map (λ e. e.2) records
unfolding reaching_within spread points reaches clear cleared_cell play score_of counts_for with_rectangle point_value rect_value has_unreaching vertex_of digits
each_record = refl
