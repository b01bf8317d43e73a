-- One sequence more is a piece, until all are. Then the end is begun.
use Rattle.sgf_lines.proofs.Common.{◌≡◌, ap, ◌∙◌, arith, rules, flat_map, take_all, common_steps, nodes_before, node_text, pushed, closed, sequences_before, as_many_parts, element}
use Rattle.sgf_lines.proofs.Recordings.{record_kept, record_more}
use Rattle.sgf_lines.proofs.RunRecords.{made_record}
use Rattle.judged_lines.proofs.LineVerdicts.{some_line}
use Rattle.tree_lines.proofs.SequenceCursors.{some_end}
use Rattle.sgf_lines.proofs.form.sgf.SgfFormLineKeeper.follow.Goals as goal
use Rattle.sgf_lines.proofs.form.sgf.SgfFormLineKeeper.follow.Goals.{then-held-gt0, else-held-gt0+in_ok-make_room+in_ok-push+in_ok-close}

pub loop-index-init : goal.loop-index-init
loop-index-init c =
    let kept = record_kept _ c.args.cursor.now c.args.held c.requires.held c.args.self.now.record (λ old h. h.0) c.requires.divided in
    elim c.if-held-gt0.branch [
      | then-held-gt0 w ↦ rw w.self-is (w.cut_back.ensures ∙ kept (omega (arith, w.if-held-gt0.true)))
      | else-held-gt0+in_ok-make_room+in_ok-push+in_ok-close w ↦ rw w.self-is (search rules)
    ]

pub loop-index-preserved : goal.loop-index-preserved
loop-index-preserved c =
    let cursor = c.args.cursor.now in
    let sequences = sequences_before cursor in
    let count = as_many_parts 0 cursor.ends (nodes_before cursor.at) in
    let f = element sequences c.loop-index.index (omega (arith, count, c.loop-index-test.true, c.sequences-end.ensures.count)) in
    let pushed_is : c.push_sequence.new.self ≡ closed (pushed c.loop-index.self.record (flat_map node_text f.0)) = rw f.1 at c.in_ok-push_sequence.ensures in
    pushed_is ∙ ap (λ r. closed (pushed r (flat_map node_text f.0))) c.loop-index.invariant ∙ record_more sequences c.loop-index.index f.0 f.1

pub returns-clause-holds : goal.returns-clause-holds
returns-clause-holds c = grind (arith, common_steps, as_many_parts, made_record, some_end, some_line, take_all)
