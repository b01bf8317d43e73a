use Rattle.std.proofs.Common.{◌≡◌, ◌≢◌, ℕ, ◌<◌, length, min, slice_index, subst, ◌∙◌, rules, arith}
use Rattle.board_past.proofs.NumberLemmas.{at-older}
use Rattle.board_past.proofs.past.print_past.hashes.forget_hashes.Goals as goal

pub returns-clause-some : goal.returns-clause-some
returns-clause-some c = λ newest older is count.
    let old = c.args.kept.now.items in
    let new = c.truncate.new.self.items in
    let few : length new ≡ min c.args.count (length old) = search rules in
    let same : (number : ℕ) → number < length new → slice_index new number ≡ slice_index old number = λ number low. c.truncate.ensures.by_index number 0 (omega (arith, low, few)) in
    record {
      few = omega (arith, few, count);
      right = λ number grid low at some.
          same number low ∙ is.right number grid (omega (arith, low, few)) (at-older newest older (omega (arith, low, few, count)) at) (subst (λ n. n ≢ 0) (same number low) some);
    }
