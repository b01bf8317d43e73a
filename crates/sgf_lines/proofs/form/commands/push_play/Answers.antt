-- The command of a stone has the letter of its player, and one digit or two of its row.
use Rattle.sgf_lines.proofs.Common.{◌≡◌, [], ◌∷◌, refl, arith, nat_tests, common_steps, colour_letter}
use Rattle.sgf_lines.proofs.ScriptRows.{command-one_digit, command-two_digits, row-below}
use Rattle.sgf_lines.proofs.form.commands.push_play.Goals as goal
use Rattle.sgf_lines.proofs.form.commands.push_play.Goals.{After-vertex-letter, in-Black, in-White}

letter : (c : After-vertex-letter) → colour_letter c.args.colour ≡ c.match-colour.player ∷ []
letter c = elim c.match-colour.branch [ in-Black w ↦ rw (w.in-Black.is, w.player-is) refl | in-White w ↦ rw (w.in-White.is, w.player-is) refl ]

pub returns-then-row-lt10 : goal.returns-then-row-lt10
returns-then-row-lt10 c = grind (arith, common_steps, letter (goal.at.returns-then-row-lt10 c).After-vertex-letter, command-one_digit, nat_tests)

pub returns-else-row-lt10 : goal.returns-else-row-lt10
returns-else-row-lt10 c = grind (arith, common_steps, letter (goal.at.returns-else-row-lt10 c).After-vertex-letter, command-two_digits, nat_tests, row-below)
