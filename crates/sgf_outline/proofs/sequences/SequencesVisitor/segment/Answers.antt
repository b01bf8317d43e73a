use Rattle.sgf_outline.proofs.KeptSequences.{segment-kept}
use Rattle.sgf_outline.proofs.sequences.SequencesVisitor.segment.Goals as goal

pub returns : goal.returns
returns c =
    let pushed = c.in_ok-push_segment.ensures in
    record { kept = λ text. segment-kept text c.args.self.now _ c.args.segment pushed.kept pushed.few pushed.pushed c.requires.rises c.requires.low }
