use Rattle.std.proofs.Common.{arith}
use Rattle.sgf_properties.proofs.quick.value.kept_end.Goals as goal

pub returns-then-long-low : goal.returns-then-long-low
returns-then-long-low c =
    c.requires.kept c.halves.low _ c.if-low-long.true c.args.at (omega (arith, c.requires.within, c.if-long-low.true))
