use Rattle.sgf_outline.proofs.Common.{arith}
use Rattle.sgf_outline.proofs.ShortBytes.{stops-inside, stops-short}
use Rattle.sgf_outline.proofs.quick.properties.near_property_close.Goals as goal

pub bounds-text-close : goal.bounds-text-close
bounds-text-close c = (stops-inside c.args.text.now c.args.at (omega arith) (λ i. (c.type_inv.text i).fits) c.if-stops-eq0.false (omega arith)).0

pub returns-then-text-close-eq93-clause-goes_on : goal.returns-then-text-close-eq93-clause-goes_on
returns-then-text-close-eq93-clause-goes_on c = (stops-inside c.args.text.now c.args.at (omega arith) (λ i. (c.type_inv.text i).fits) c.if-stops-eq0.false (omega arith)).1

pub returns-then-text-close-eq93-clause-short : goal.returns-then-text-close-eq93-clause-short
returns-then-text-close-eq93-clause-short c =
    stops-short c.args.text.now c.args.at (omega arith) (λ i. (c.type_inv.text i).fits) c.if-stops-ne0.false c.if-stops-eq0.false c.if-text-close-eq93.true
