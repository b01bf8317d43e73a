use Rattle.sgf_outline.proofs.Common.{◌≡◌, ℕ, Bool, not, IsTrue, Option, None, Some, refl, sym, ap, ◌∙◌, arith, ne_eqb, eq-eqb, nat_eq, ◌≢◌, false≢true, common_steps}
use Rattle.std.specs.Option.{option_eq}
use Rattle.std.proofs.Math.Dec.{eqb_refl}
use Rattle.sgf_outline.proofs.Outlined.{end-leaf, leaf-if, if-leaf}
use Rattle.sgf_outline.proofs.outline.Outline.ends_in_leaf.Goals as goal

pub returns-then-i-sequences : goal.returns-then-i-sequences
returns-then-i-sequences c = grind (arith, common_steps, end-leaf, eqb_refl)

other-if : (o : Option ℕ) (i : ℕ) (b : Bool) → b ≡ not (option_eq nat_eq o (Some i)) → IsTrue b → o ≢ Some i
other-if o i b e is same = false≢true (sym (e ∙ ap (λ k. not (option_eq nat_eq k (Some i))) same ∙ ap not (eq-eqb i i refl)) ∙ is)

if-other : (o : Option ℕ) (i : ℕ) (b : Bool) → b ≡ not (option_eq nat_eq o (Some i)) → o ≢ Some i → IsTrue b
if-other None i b e other = e
if-other (Some k) i b e other = e ∙ ap not (ne_eqb k i (λ same. other (ap Some same)))

pub returns-else-i-sequences : goal.returns-else-i-sequences
returns-else-i-sequences c = (
  λ is. leaf-if c.args.self.now c.args.i (omega (arith, c.requires, c.if-i-sequences.false, c.sequences.ensures.count)) c.sequence_outer.result c.sequence_outer.ensures
      (other-if c.sequence_outer.result c.args.i c.ne.result c.ne.ensures is),
  λ leaf. if-other c.sequence_outer.result c.args.i c.ne.result c.ne.ensures
      (if-leaf c.args.self.now c.args.i (omega (arith, c.requires, c.if-i-sequences.false, c.sequences.ensures.count)) c.sequence_outer.result c.sequence_outer.ensures leaf),
)
