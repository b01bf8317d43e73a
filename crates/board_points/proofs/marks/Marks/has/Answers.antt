use Rattle.board_points.proofs.Common.{◌∙◌, ap, sym, subst, is_marked, IsOn, Marking}
use Rattle.board_points.proofs.MarkingLemmas.{rows-has}
use Rattle.board_points.proofs.marks.Marks.has.Goals as goal

pub returns : goal.returns
returns c =
    let p = c.args.point in
    rows-has c.self.inside.size c.self.inside.rows p c.from.result c.from.ensures (subst (λ (m : Marking). IsOn m.side p) (sym c.self.view_is) c.requires) ∙ ap (λ m. is_marked m p) c.self.view_is
