use Rattle.std.proofs.Common.{refl}
use Rattle.board_past.proofs.past.print_past.key.ColouringKey.new.Goals as goal

pub returns : goal.returns
returns c = refl
