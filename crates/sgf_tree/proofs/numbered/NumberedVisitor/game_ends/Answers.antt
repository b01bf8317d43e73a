use Rattle.sgf_tree.proofs.Common.{◌≡◌, ℕ, ◌-◌, length, set, Some, sym, ap, subst, arith, HoldsSequences, nothing, Numbered, fewer-games}
use Rattle.sgf_tree.proofs.KeptNodes.{length-places, length-lasts, nodes-ended}
use Rattle.sgf_outline.proofs.KeptSequences.{innermost-within}
use Rattle.sgf_tree.proofs.numbered.NumberedVisitor.game_ends.Goals.{in-Some, in_default}
use Rattle.sgf_tree.proofs.numbered.NumberedVisitor.game_ends.Goals as goal

pub overflow_sub-len : goal.overflow_sub-len
overflow_sub-len c =
    let (text, k, holds, is_unclosed, few) = c.requires.few in
    omega (arith, length-places text c.args.self.now k holds, fewer-games k.closed k.unclosed c.args.depth is_unclosed, c.len.ensures, c.args.self.now.places.ok.0)

pub overflow_cast-len : goal.overflow_cast-len
overflow_cast-len c =
    let (text, k, holds, is_unclosed, few) = c.requires.few in
    omega (arith, length-places text c.args.self.now k holds, c.len.ensures, c.args.self.now.places.ok.0)

pub index_mut-requires : goal.index_mut-requires
index_mut-requires c =
    let (text, k, holds, is_unclosed, few) = c.requires.few in
    let h = innermost-within text c.args.self.now.sequences k nothing c.in-Some.innermost holds.sequences c.in-Some.is in
    omega (arith, h, length-lasts text c.args.self.now k _ holds, c.args.self.now.last_nodes.ok.0)

pub returns : goal.returns
returns c =
    let kept = c.args.self.now in
    let after = c.match-self.self in
    let same : kept.sequences ≡ after.sequences = elim c.match-self.branch [
      | in-Some w ↦ ap (λ (n : Numbered). n.sequences) (sym w.self-is)
      | in_default w ↦ ap (λ (n : Numbered). n.sequences) (sym w.self-is)
    ] in
    let closes : (i : ℕ) → kept.sequences.innermost ≡ Some i → (after.places ≡ kept.places) × (after.last_nodes.items ≡ set kept.last_nodes.items i (length kept.places.items - 1)) = λ i is. elim c.match-self.branch [
      | in-Some w ↦
          let e : w.in-Some.innermost ≡ i = cc in
          let n : w.len.result ≡ length kept.places.items = omega (arith, w.len.ensures, kept.places.ok.0) in
          (ap (λ (n : Numbered). n.places) w.self-is, rw (← n, ← e) (ap (λ (n : Numbered). n.last_nodes.items) w.self-is))
      | in_default w ↦ absurd (w.in_default.not-Some i is)
    ] in
    record {
      kept = λ text k next holds is_unclosed e.
          nodes-ended text kept _ closes k next e holds
          (c.game_ends.ensures.kept text k next (subst (λ s. HoldsSequences text s k nothing) same holds.sequences) is_unclosed e);
    }
