use Rattle.std.proofs.Common.{arith}
use Rattle.sgf_outline.proofs.Outlined.{table_length, starts-few}
use Rattle.sgf_outline.proofs.outline.Outline.sequences.Goals as goal

pub returns-clause-few : goal.returns-clause-few
returns-clause-few c = omega (arith, c.len.ensures, table_length c.self.inside.text.now c.self.inside.sequences c.self.invariant.0 _ c.self.view_is, starts-few c.args.self.now)

pub returns-clause-count : goal.returns-clause-count
returns-clause-count c = omega (arith, c.len.ensures, table_length c.self.inside.text.now c.self.inside.sequences c.self.invariant.0 _ c.self.view_is)
