-- The rows of a node in a script do to the board what the node's step does to the state.
use Rattle.sgf_lines.proofs.Common.{arith, common_steps}
use Rattle.sgf_lines.proofs.Replaying.{script_replayed}
use Rattle.sgf_lines.proofs.laws.replay.Goals as goal

pub returns : goal.returns
returns c = grind (arith, common_steps, script_replayed)
