use Rattle.sgf_outline.proofs.Common.{◌≢◌, List, ℕ, [], ◌∷◌, ◌+◌, ◌∙◌, All, get_or, sym, arith, common_steps, All-more, take_all}
use Rattle.std.specs.Cmp.Lexicographic.{other_text}
use Rattle.sgf_outline.proofs.Leading.{other-property}
use Rattle.sgf_outline.proofs.ShortBytes.{two-value}
use Rattle.sgf_outline.proofs.quick.lead.other_property_end.Goals as goal

pub loop-known-preserved : goal.loop-known-preserved
loop-known-preserved c =
    let names = c.args.names.now in
    let i = c.loop-known.known-index in
    let name : List ℕ = get_or c.args.text.now c.args.start 0 ∷ get_or c.args.text.now (c.args.start + 1) 0 ∷ [] in
    All-more (λ (known : List ℕ). name ≢ known) names i [] c.loop-known-test.true c.loop-known.invariant (other_text name (get_or names i []) (sym c.if-eq.false ∙ c.eq.ensures))

pub returns-clause-other : goal.returns-clause-other
returns-clause-other c =
    let text = c.args.text.now in
    let start = c.args.start in
    let others : All (λ (known : List ℕ). get_or text start 0 ∷ get_or text (start + 1) 0 ∷ [] ≢ known) c.args.names.now =
    rw (take_all c.loop-known.known-index c.args.names.now (omega arith)) at c.loop-known.invariant in
    grind (arith, common_steps, two-value, other-property)
