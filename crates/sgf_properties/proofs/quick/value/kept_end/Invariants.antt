use Rattle.std.proofs.Common.{◌-◌, ◌≤◌, length}
use Rattle.sgf_properties.proofs.quick.value.kept_end.Given as goal

abbrev pub invariant-halves : goal.invariant-halves
invariant-halves l = record { rises : l.low ≤ l.high; within : l.high ≤ length l.long }

abbrev pub decreases-halves : goal.decreases-halves
decreases-halves l = l.high - l.low
