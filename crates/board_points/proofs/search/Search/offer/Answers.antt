use Rattle.board_points.proofs.Common.{◌*◌, sym, ap, ◌∙◌, arith, length-set, Marking}
use Rattle.board_points.proofs.SearchLemmas.{IsOffered, offered}
use Rattle.board_points.proofs.search.Search.offer.Goals as goal
use Rattle.board_points.proofs.search.Search.offer.Goals.{After-mark}

pub found : (c : After-mark) → IsOffered c.mark.new.self c.self.inside.points c.self.inside.waiting c.args.point c.args.self.now
found c =
    let i = c.self.inside in
    offered i.marks c.mark.new.self i.points i.waiting _ c.args.point c.self.view_is (omega (arith, c.self.invariant)) (omega (arith, c.self.invariant)) c.self.invariant.3 (c.requires c.if-wanted.true) (sym c.has.ensures ∙ c.if-not-has.true) c.mark.ensures

-- the worklist has a place for a point that isn't marked
pub bounds-self-inside-self-inside : goal.bounds-self-inside-self-inside
bounds-self-inside-self-inside c =
    let w = (goal.at.bounds-self-inside-self-inside c).After-mark in omega (arith, (found w).place, c.self.invariant)

pub invariant_of-self : goal.invariant_of-self
invariant_of-self c =
    let w = (goal.at.invariant_of-self c).After-mark in (
      length-set c.self.inside.points c.self.inside.waiting c.args.point ∙ c.self.invariant.0,
      omega (arith, (found w).place, c.self.invariant),
      omega (arith, ap (λ (m : Marking). m.side * m.side) c.mark.ensures, c.self.invariant),
      (found w).sound,
    )

pub returns-then-not-has : goal.returns-then-not-has
returns-then-not-has c = let w = (goal.at.returns-then-not-has c).After-mark in (found w).finds c.args.wanted c.if-wanted.true
