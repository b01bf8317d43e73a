-- An answer for speed: words in another order are refused at once.
use Rattle.std.proofs.Common.{refl}
use Rattle.sgf_lines.proofs.options.Form.words.Goals as goal

pub returns : goal.returns
returns c = rw c.as_slice.ensures refl
