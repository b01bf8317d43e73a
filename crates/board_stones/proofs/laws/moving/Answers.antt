use Rattle.board_stones.proofs.Common.{sym, ◌∙◌, true≢false}
use Rattle.board_stones.proofs.RuleLemmas.{Decides-has_unreaching}
use Rattle.board_stones.proofs.SettledLemmas.{settled_by_play}
use Rattle.board_stones.proofs.laws.moving.Goals as goal

pub returns : goal.returns
returns c =
    λ grid colour point shut.
    true≢false (sym ((Decides-has_unreaching _).1 shut) ∙ settled_by_play grid colour point)
