use Rattle.board_stones.proofs.Common.{◌≡◌, ◌⊎◌, ◌↔◌, true, get_or, common_steps, inl, inr, length, sym, ap, ◌∙◌, subst, arith, Contains, take_all, IsTrue, length_push, count_by-le-length, Contains-take_more, Point, is_marked, marked_count, IsOn, cell_at, Cell, ReachesThrough}
use Rattle.board_points.proofs.PointLemmas.{origin}
use Rattle.board_points.proofs.SearchLemmas.{Finds-then, Finds-same}
use Rattle.board_stones.proofs.FloodLemmas.{IsUnderWay-step, complete}
use Rattle.board_stones.proofs.GridLemmas.{Decides-cell_eq, same_cell-eq}
use Rattle.board_stones.proofs.board.Board.reaching.Goals as goal

pub loop-to-preserved : goal.loop-to-preserved
loop-to-preserved c =
    let g = c.args.self.now in
    let own = c.at-own.result in
    let Through = λ (q : Point). (own ≡ c.args.target) ⊎ (cell_at g q ≡ own) in
    let beside = c.neighbours-to-items.result in
    let n = c.loop-to.to-index in
    let same_side = ap (λ m. m.side) c.in-Some.ensures.marking ∙ c.loop-point.invariant.way.side in
    let test : (c.if-is_on.through ≡ true) ↔ (IsOn g.side (get_or beside n origin) × Through (get_or beside n origin)) = grind (arith, common_steps, Decides-cell_eq, same_cell-eq) in
    Finds-then _ _ _ _ _ _ c.loop-to.invariant c.offer-in-loop-to.ensures
    (λ q on is.
    let at = subst (λ m. IsOn m q) same_side on in
    elim ((Contains-take_more beside n q (omega arith)).0 is.0) [
      | inl before ↦ inl (before, is.1)
      | inr here ↦ inr (test.1 (subst (IsOn g.side) here at, subst Through here is.1), here)
    ])
    (λ q on is.
    elim is [
      | inl a ↦ ((Contains-take_more beside n q (omega arith)).1 (inl a.0), a.1)
      | inr b ↦ ((Contains-take_more beside n q (omega arith)).1 (inr b.1), subst Through (sym b.1) (test.0 b.0).1)
    ])

pub loop-point-preserved : goal.loop-point-preserved
loop-point-preserved c =
    let g = c.args.self.now in
    let way = c.loop-point.invariant.way in
    let took = c.in-Some.ensures in
    let few = c.has_all_cells.ensures.few in
    let beside = c.neighbours-to-items in
    let same_side = ap (λ m. m.side) took.marking ∙ way.side in
    let all = take_all c.loop-to.to-index beside.result (omega arith) in
    let Through = λ (own : Cell) (q : Point). (own ≡ c.args.target) ⊎ (cell_at g q ≡ own) in
    let finds = Finds-same _ (ReachesThrough g c.args.target c.in-Some.point) _ _
    (λ q on is. ((beside.ensures q (omega (arith, few, on, same_side), omega (arith, few, on, same_side))).0 (subst (λ l. Contains l q) all is.0), subst (λ own. Through own q) c.at-own.ensures is.1))
    (λ q on is. (subst (λ l. Contains l q) (sym all) ((beside.ensures q (omega (arith, few, on, same_side), omega (arith, few, on, same_side))).1 is.0), subst (λ own. Through own q) (sym c.at-own.ensures) is.1))
    c.loop-to.invariant in
    record {
      way = IsUnderWay-step c.args.self.now c.args.target _ _ _ c.in-Some.point way (subst (λ n. IsOn n c.in-Some.point) way.side took.on_grid) took.marked took.taken took.marking finds;
      counted = omega (arith, c.tick.ensures, c.loop-point.invariant.counted, finds.counted, ap (λ (l : _). length l) took.taken, length_push c.take_one.new.self.waiting c.in-Some.point, ap marked_count took.marking);
    }

pub returns-clause-marks : goal.returns-clause-marks
returns-clause-marks c = λ p on.
    let way = c.loop-point.invariant.way in
    let ended = c.in_default.ensures in
    let same : c.into_marks.result ≡ c.loop-point.search.marking = c.into_marks.ensures ∙ ended.marking in (
      λ is. way.reach p on (subst (λ m. IsTrue (is_marked m p)) same is),
      λ path. subst (λ m. IsTrue (is_marked m p)) (sym same) (complete c.args.self.now c.args.target _ way ended.none_waits (cell_at c.args.self.now p) p path.0 path.1),
    )

pub loop-point-smaller : goal.loop-point-smaller
loop-point-smaller c =
    let before = c.loop-point.invariant in
    let some = ap (λ (l : _). length l) c.in-Some.ensures.taken ∙ length_push c.take_one.new.self.waiting c.in-Some.point in
    omega (arith, c.tick.ensures, before.counted, count_by-le-length (λ b. b) c.loop-point.search.marking.marks, before.way.all, some)

-- these two are only there for speed
pub tick-requires : goal.tick-requires
tick-requires c =
    let before = c.loop-point.invariant in
    let some = ap (λ (l : _). length l) c.in-Some.ensures.taken ∙ length_push c.take_one.new.self.waiting c.in-Some.point in
    omega (arith, before.counted, count_by-le-length (λ b. b) c.loop-point.search.marking.marks, before.way.all, some, c.requires)

pub returns-clause-at_most : goal.returns-clause-at_most
returns-clause-at_most c =
    let same : c.into_marks.result ≡ c.loop-point.search.marking = c.into_marks.ensures ∙ c.in_default.ensures.marking in
    omega (arith, count_by-le-length (λ b. b) c.loop-point.search.marking.marks, c.loop-point.invariant.way.all, ap marked_count same)
