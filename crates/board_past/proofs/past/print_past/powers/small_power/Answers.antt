use Rattle.std.proofs.Common.{rules}
use Rattle.board_past.proofs.PowerLemmas.{low_power}
use Rattle.board_past.proofs.past.print_past.powers.small_power.Goals as goal

pub returns : goal.returns
returns c = search (rules, low_power)
