use Rattle.judged_lines.proofs.Common.{[], ◌∷◌, ◌++◌, sym, ap, ◌∙◌, append_assoc, subst, All, All-append, All-from_recursion, IsRectOn, SetupOp}
use Rattle.judged_lines.proofs.Gathered.{rectangles_more, rectangles_stop}
use Rattle.judged_lines.proofs.judging.contents.push_rectangles.Goals as goal

pub returns-in_default-rect : goal.returns-in_default-rect
returns-in_default-rect c =
    let (front, ops, whole, are, items, on) = c.loop-raw.invariant in
    let all = ap (λ left. front ++ left) (sym c.in-Some.ensures.steps) ∙ whole in
    record { added = rectangles_stop c.args.size c.args.cell front c.in-Some.raw.now c.next.new.self _ all (sym c.in_default-rect.ensures.value); on_board = on }

pub loop-raw-preserved : goal.loop-raw-preserved
loop-raw-preserved c =
    let (front, ops, whole, are, items, on) = c.loop-raw.invariant in
    let raw = c.in-Some.raw.now in
    let op : SetupOp = record { cell = c.args.cell; area = c.in-Some-rect.area } in
    let old = c.args.operations.now.items in
    let pushed = c.in_ok-push.ensures.items in (
      front ++ raw ∷ [],
      ops ++ op ∷ [],
      append_assoc front (raw ∷ []) c.next.new.self ∙ ap (λ left. front ++ left) (sym c.in-Some.ensures.steps) ∙ whole,
      rectangles_more c.args.size c.args.cell front raw c.in-Some-rect.area ops are (sym c.in-Some-rect.ensures.value),
      pushed ∙ ap (λ os. os ++ op ∷ []) items ∙ append_assoc old ops (op ∷ []),
      λ all. subst (All (λ (o : SetupOp). IsRectOn c.args.size o.area)) (sym pushed)
          (All-append (λ (o : SetupOp). IsRectOn c.args.size o.area) c.loop-raw.operations.items (op ∷ []) (on all)
          (All-from_recursion (λ (o : SetupOp). IsRectOn c.args.size o.area) (op ∷ []) (c.in-Some-rect.ensures.on_board, tt))),
    )
