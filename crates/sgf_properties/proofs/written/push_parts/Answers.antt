use Rattle.sgf_properties.proofs.Common.{◌≡◌, ◌++◌, append_assoc, arith, common_steps}
use Rattle.sgf_properties.specs.Written.{value_text}
use Rattle.sgf_properties.proofs.GoingOn.{goes_on_on}
use Rattle.sgf_properties.proofs.written.push_parts.Goals as goal

pub loop-value-init : goal.loop-value-init
loop-value-init c = grind (arith, common_steps) steps 400000

pub loop-value-preserved : goal.loop-value-preserved
loop-value-preserved c =
    let pushed : c.push-in-loop-value.new.self.items ≡ c.loop-value.out.items ++ value_text c.in-Some.value.now = grind (arith, append_assoc) in
    record {
      appended = grind (arith, append_assoc);
      goes_on = goes_on_on c.args.out.now.items c.loop-value.out.items c.push-in-loop-value.new.self.items c.loop-value.invariant.goes_on (_, pushed);
    }
