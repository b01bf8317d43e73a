use Rattle.std.proofs.Common.{rules}
use Rattle.sgf_lines_c.proofs.split.put.Goals as goal

pub returns-then-room-bytes : goal.returns-then-room-bytes
returns-then-room-bytes c = λ options text taken. search rules

pub returns : goal.returns
returns c = λ options text taken. search rules
