use Rattle.sgf_outline.proofs.Common.{◌≡◌, ℕ, ◌+◌, cond, get_or, Some, ap, arith, rules, eqb, Sequence, outer_by, nothing}
use Rattle.sgf_outline.proofs.GameEnds.{unclosed_games-least, cast-to, at_most_1}
use Rattle.sgf_outline.proofs.KeptSequences.{innermost-within, sequences-ended}
use Rattle.sgf_outline.proofs.sequences.SequencesVisitor.game_ends.Goals.{in-Some, in_default}
use Rattle.sgf_outline.proofs.sequences.SequencesVisitor.game_ends.Goals as goal

pub index-requires : goal.index-requires
index-requires c =
    let (text, k, holds, is_unclosed, few) = c.requires.few in
    let h = innermost-within text c.args.self.now k nothing c.in-Some.innermost holds c.in-Some.is in
    omega (arith, h, c.args.self.now.table.ok.0)

pub overflow_add-self : goal.overflow_add-self
overflow_add-self c = search (rules, unclosed_games-least, at_most_1)

pub returns : goal.returns
returns c =
    let kept = c.args.self.now in
    let after = c.match-self.self in
    let outer : (i : ℕ) → kept.innermost ≡ Some i → (d : Sequence) × (after ≡ record kept { innermost = outer_by (get_or kept.table.items i d) }) = λ i is. elim c.match-self.branch [
      | in-Some w ↦ let e : i ≡ w.in-Some.innermost = cc in (w.index.result.now, cc)
      | in_default w ↦ absurd (w.in_default.not-Some i is)
    ] in
    let is : c.from.result ≡ cond (eqb c.args.depth 0) 1 0 = cast-to (eqb c.args.depth 0) c.from.result (λ e. rw e at c.from.ensures) (λ e. rw e at c.from.ensures) in
    record {
      kept = λ text k next holds is_unclosed closes.
          sequences-ended text kept after outer c.args.depth (after.games + c.from.result) (ap (λ n. after.games + n) is) k next closes holds is_unclosed;
    }
