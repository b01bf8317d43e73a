-- The climb stays in the game.
use Rattle.sgf_outline.proofs.Common.{◌≡◌, ◌<◌, length, game_of, sequence_starts, sequence_start}
use Rattle.sgf_outline.proofs.outline.Outline.game_of.Given as goal

abbrev pub invariant-climb : goal.invariant-climb
invariant-climb l = record {
  within : l.at < length (sequence_starts l.self);
  same : game_of l.self (sequence_start l.self l.at) ≡ game_of l.self (sequence_start l.self l.i);
}

abbrev pub decreases-climb : goal.decreases-climb
decreases-climb l = l.at
