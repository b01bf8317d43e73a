-- The output of small collections, in sgf form.
use Rattle.sgf_lines.proofs.Common.{no_games, game, lines, output, ◌≡◌, [], ◌∷◌, refl, codes}
use Rattle.tree_lines.proofs.Examples.{node_with, variations, two_games}
use Rattle.sgf_lines.specs.declared.options.Form.TheVariants.{Sgf as sgf_form}

variations-output : output sgf_form (lines variations) ≡ codes "(;SZ[3];B[aa])\n(;SZ[3];B[bb];W[aa])\n"
variations-output = refl

two_games-output : output sgf_form (lines two_games) ≡ codes "(;SZ[1])\n(;SZ[2])\n"
two_games-output = refl

-- ( ;AW[aa] [bb];(;)), whose values and empty nodes stay
values_and_empty_nodes : output sgf_form (lines (game (node_with 2 (record { name = codes "AW"; first = codes "aa"; more = codes "b\\]" ∷ [] } ∷ [])) (node_with 9 [] ∷ []) (game (node_with 11 []) [] no_games no_games) no_games)) ≡ codes "(;AW[aa][b\\]];;)\n"
values_and_empty_nodes = refl
