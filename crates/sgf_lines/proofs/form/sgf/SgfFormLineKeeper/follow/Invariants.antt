-- The sequences before the index are pieces.
use Rattle.sgf_lines.proofs.Common.{◌≡◌, take, sequences_before, unclosed_record}
use Rattle.sgf_lines.proofs.form.sgf.SgfFormLineKeeper.follow.Given as goal

abbrev pub invariant-loop-index : goal.invariant-loop-index
invariant-loop-index l = l.self.record ≡ unclosed_record (take l.index (sequences_before l.cursor))
