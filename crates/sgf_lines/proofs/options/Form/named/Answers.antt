-- Answers for speed: a wrong form is refused sooner.
use Rattle.std.proofs.Common.{sym, rules}
use Rattle.sgf_lines.proofs.options.Form.named.Goals as goal

pub returns-in-gtp-clause-named : goal.returns-in-gtp-clause-named
returns-in-gtp-clause-named c = sym c.in-gtp.is

pub returns-in-gtp-clause-all : goal.returns-in-gtp-clause-all
returns-in-gtp-clause-all c = search rules
