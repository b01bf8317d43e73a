use Rattle.sgf_properties.proofs.Common.{take_rest}
use Rattle.sgf_properties.proofs.KeptLengths.{kept-drop}
use Rattle.sgf_properties.proofs.iter.Properties.new.Goals as goal

pub invariant_of-result : goal.invariant_of-result
invariant_of-result c =
    rw (take_rest c.args.text.now _) (c.requires.held, kept-drop c.args.text.now _ _ c.requires.within c.requires.kept)
