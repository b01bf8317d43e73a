-- An answer for speed: a wrong field is refused at once.
use Rattle.std.proofs.Common.{refl}
use Rattle.sgf_lines.proofs.options.Options.all.Goals as goal

pub returns : goal.returns
returns c = refl
