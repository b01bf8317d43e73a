use Rattle.sgf_properties.proofs.Common.{[], no_value}
use Rattle.sgf_properties.proofs.Iterating.{no-bracket}
use Rattle.sgf_properties.proofs.iter.values_end.Goals as goal

pub returns-else-begins_value : goal.returns-else-begins_value
returns-else-begins_value c =
    let end = c.begins_value.ensures c.if-begins_value.false in
    record { within = c.requires.within; past = record { values = []; spelled = no_value; none_left = no-bracket c.args.text.now c.args.at end.next end.white_space end.other } }
