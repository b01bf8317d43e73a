use Rattle.board_points.proofs.Common.{◌∙◌, ap, sym, subst, arith, with_mark, IsOn, Marking}
use Rattle.board_points.proofs.MarkingLemmas.{rows-with_bit}
use Rattle.board_points.proofs.marks.Marks.mark.Goals as goal

pub returns : goal.returns
returns c =
    let p = c.args.point in
    rw c.from.ensures
    (rows-with_bit c.self.inside.size c.self.inside.rows p (omega (arith, c.self.invariant)) (omega (arith, c.self.invariant)) (subst (λ (m : Marking). IsOn m.side p) (sym c.self.view_is) c.requires)
    ∙ ap (λ m. with_mark m p) c.self.view_is)
