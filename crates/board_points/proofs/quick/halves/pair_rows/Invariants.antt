use Rattle.board_points.proofs.Common.{ℕ, ◌<◌, length, slice_index}
use Rattle.board_points.proofs.HalvesLemmas.{IsPair, IsPairOfOthers}
use Rattle.board_points.proofs.quick.halves.pair_rows.Given as goal

abbrev pub invariant-rows : goal.invariant-rows
invariant-rows l = record {
  areas : (r : ℕ) → r < l.row → IsPair l.black l.white r (slice_index l.areas r);
  region : (r : ℕ) → r < l.row → IsPairOfOthers (length l.black) l.black l.white r (slice_index l.region r);
}
