use Rattle.sgf_properties.proofs.Common.{filter_more, append-nil, append_assoc, arith, common_steps, is_upper}
use Rattle.sgf_properties.proofs.property.PropRef.push_name.Goals as goal

pub loop-letter-preserved : goal.loop-letter-preserved
loop-letter-preserved c = grind (arith, append-nil, append_assoc, filter_more is_upper c.self.inside.identifier.now c.loop-letter.letter-index 0 (omega arith)) steps 2400000

pub unwrap-requires : goal.unwrap-requires
unwrap-requires c = omega (arith, c.loop-letter.invariant.room, c.loop-letter-test.true)

pub returns-clause-appended : goal.returns-clause-appended
returns-clause-appended c = grind (arith, common_steps)
