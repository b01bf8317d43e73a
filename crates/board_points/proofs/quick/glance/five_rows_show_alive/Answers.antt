use Rattle.board_points.proofs.Common.{◌≡◌, ◌≢◌, ◌-◌, ◌<◌, ◌^◌, false, true, ℕ, inl, inr, bit_and, sym, ap, ◌∙◌, arith, rules, subst, or-true, false≢true, RowStones, Lives, LeavesAlong, LeavesAcross, DifferByOne, has_bit, IsLookedAt}
use Rattle.board_points.proofs.GlanceLemmas.{row_here, free_here, none_free, free_elsewhere, keeps_liberty, friend_there, left_there}
use Rattle.board_points.proofs.quick.glance.five_rows_show_alive.Goals as goal
use Rattle.board_points.proofs.quick.glance.five_rows_show_alive.Goals.{After-columns_beside-in_doubt}

-- the point's own row, without the point
abbrev here : After-columns_beside-in_doubt → RowStones
here c = record { own = c.args.here.own; others = c.args.here.others; taken = c.with_column-taken.result }

up : (c : After-columns_beside-in_doubt) → IsLookedAt c.args.own.now c.args.others.now c.args.point 0 c.args.first.taken c.args.above (2 ^ 64 - 1)
up c = record {
  stones = c.requires.above;
  free_above = free_elsewhere _ _ c.args.point 0 c.args.first (omega arith) c.requires.first;
  free_here = free_elsewhere _ _ c.args.point 1 c.args.above (omega arith) c.requires.above;
  free_below = none_free c.args.own.now c.args.others.now c.args.point 2;
}

along : (c : After-columns_beside-in_doubt) → IsLookedAt c.args.own.now c.args.others.now c.args.point 1 c.args.above.taken (here c) c.args.below.taken
along c =
    let taken = c.with_column-taken.result in
    let same = c.from-col.ensures in
    let there : has_bit taken c.args.point.col ≡ true = ap (has_bit taken) (sym same) ∙ c.with_column-taken.ensures.there ∙ or-true _ in
    let left : (k : ℕ) → k ≢ c.args.point.col → has_bit taken k ≡ has_bit c.args.here.taken k = λ k other. c.with_column-taken.ensures.elsewhere k (λ e. other (e ∙ same)) in
    record {
      stones = row_here _ _ c.args.point taken c.args.here there left c.requires.here;
      free_above = free_elsewhere _ _ c.args.point 1 c.args.above (omega arith) c.requires.above;
      free_here = free_here _ _ c.args.point taken c.args.here there left c.requires.here;
      free_below = free_elsewhere _ _ c.args.point 3 c.args.below (omega arith) c.requires.below;
    }

down : (c : After-columns_beside-in_doubt) → IsLookedAt c.args.own.now c.args.others.now c.args.point 2 (2 ^ 64 - 1) c.args.below c.args.last.taken
down c = record {
  stones = c.requires.below;
  free_above = none_free c.args.own.now c.args.others.now c.args.point 2;
  free_here = free_elsewhere _ _ c.args.point 3 c.args.below (omega arith) c.requires.below;
  free_below = free_elsewhere _ _ c.args.point 4 c.args.last (omega arith) c.requires.last;
}

-- no stone of the opponent beside the point is without a free point beside it
abbrev NoneInDoubt : After-columns_beside-in_doubt → Type 0
NoneInDoubt c = has_bit c.columns_beside-in_doubt.result c.from-col.result ≡ false

leaves_along : (c : After-columns_beside-in_doubt) → NoneInDoubt c → LeavesAlong c.args.own.now c.args.others.now c.args.point
leaves_along c none q set next =
    let in_doubt = c.columns_beside-in_doubt in
    let middle = c.columns_shut-middle in
    let column : c.from-col.result < 64 = omega (arith, c.from-col.ensures, c.requires.on_board.0, c.requires.rows.few) in
    left_there c.args.own.now c.args.others.now c.args.point 1 c.args.above.taken (here c) c.args.below.taken (along c) middle.result middle.ensures q (search rules)
    (λ is. false≢true (sym none ∙ in_doubt.ensures.to c.from-col.result column (inr (inr (q.col, subst (λ n. DifferByOne n q.col) (sym c.from-col.ensures) next.1, is)))))
    (omega (arith, next.0)) set

leaves_across : (c : After-columns_beside-in_doubt) → NoneInDoubt c → LeavesAcross c.args.own.now c.args.others.now c.args.point
leaves_across c none q set next =
    let in_doubt = c.columns_beside-in_doubt in
    let above = c.columns_shut-up in
    let below = c.columns_shut-down in
    let column : c.from-col.result < 64 = omega (arith, c.from-col.ensures, c.requires.on_board.0, c.requires.rows.few) in
    let same = c.from-col.ensures ∙ next.0 in
    elim next.1 [
      | inl row ↦ left_there c.args.own.now c.args.others.now c.args.point 2 (2 ^ 64 - 1) c.args.below c.args.last.taken (down c) below.result below.ensures q (search rules)
          (λ is. false≢true (sym none ∙ in_doubt.ensures.to c.from-col.result column (inr (inl (ap (has_bit (bit_and c.args.below.others below.result)) same ∙ is)))))
          (omega (arith, row)) set
      | inr row ↦ left_there c.args.own.now c.args.others.now c.args.point 0 c.args.first.taken c.args.above (2 ^ 64 - 1) (up c) above.result above.ensures q (search rules)
          (λ is. false≢true (sym none ∙ in_doubt.ensures.to c.from-col.result column (inl (ap (has_bit (bit_and c.args.above.others above.result)) same ∙ is))))
          (omega (arith, row)) set
    ]

pub returns-then-not-has_column : goal.returns-then-not-has_column
returns-then-not-has_column c = λ _.
    let b = (goal.at.returns-then-not-has_column c).After-columns_beside-in_doubt in
    let p = c.args.point in
    let middle = c.columns_shut-middle in
    let none = sym c.has_column.ensures ∙ c.if-has_column.false in
    let low : p.col < 64 = omega (arith, c.requires.on_board.0, c.requires.rows.few) in
    let gone = ap (has_bit middle.result) (sym c.from-col.ensures) ∙ sym c.has_column-2.ensures ∙ c.if-not-has_column.true in
    record {
      lives = inl (keeps_liberty c.args.own.now c.args.others.now p 1 c.args.above.taken (here b) c.args.below.taken (along b) middle.result middle.ensures p (omega arith) low gone);
      along = leaves_along b none;
      across = leaves_across b none;
    }

pub returns : goal.returns
returns c = λ some.
    let b = (goal.at.returns c).After-columns_beside-in_doubt in
    let p = c.args.point in
    let above = c.columns_shut-up in
    let middle = c.columns_shut-middle in
    let below = c.columns_shut-down in
    let low : p.col < 63 = omega (arith, c.requires.on_board.0, c.requires.rows.few) in
    let none = sym c.has_column.ensures ∙ c.if-has_column.false in
    let there = ap (has_bit c.columns_beside-friends.result) (sym c.from-col.ensures) ∙ sym c.has_column-3.ensures ∙ some in
    let lives : Lives c.args.own.now c.args.others.now p =
    elim (c.columns_beside-friends.ensures.from p.col there) [
      | inl is ↦ friend_there c.args.own.now c.args.others.now p 0 c.args.first.taken c.args.above (2 ^ 64 - 1) (up b) above.result above.ensures p.col (search rules) (omega (arith, low)) (λ q at. inl (sym at.0, inr (omega (arith, at.1)))) is
      | inr (inl is) ↦ friend_there c.args.own.now c.args.others.now p 2 (2 ^ 64 - 1) c.args.below c.args.last.taken (down b) below.result below.ensures p.col (search rules) (omega (arith, low)) (λ q at. inl (sym at.0, inl (omega (arith, at.1)))) is
      | inr (inr w) ↦ friend_there c.args.own.now c.args.others.now p 1 c.args.above.taken (here b) c.args.below.taken (along b) middle.result middle.ensures w.0 (search rules) (omega (arith, low, w.1))
          (λ q at. inr (omega (arith, at.1), subst (DifferByOne p.col) (sym at.0) w.1)) w.2
    ] in
    record { lives = lives; along = leaves_along b none; across = leaves_across b none }
