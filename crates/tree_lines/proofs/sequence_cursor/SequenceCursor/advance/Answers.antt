-- The cursor stands after the next leaf.
use Rattle.tree_lines.proofs.Common.{◌≡◌, ◌+◌, ◌-◌, ◌++◌, ◌∷◌, [], take, refl, length-append, append-nil, append_assoc, arith, rules, range_with_len, common_steps, length-range_with_len, parts_of, err_from_is_err_and}
use Rattle.tree_lines.proofs.Lists.{range_append}
use Rattle.tree_lines.proofs.SequenceStarts.{fewer}
use Rattle.tree_lines.proofs.SequenceCursors.{front_kept, next_rises, next_few, goes_on, kept_further, moved, shares_front}
use Rattle.tree_lines.proofs.sequence_cursor.SequenceCursor.advance.Goals as goal
use Rattle.tree_lines.proofs.sequence_cursor.SequenceCursor.advance.Goals.{After-sequence_start}

pub overflow_add-front : goal.overflow_add-front
overflow_add-front c =
    omega (
      arith,
      c.self.inside.path.ok.0,
      c.in-Some.ensures.few,
      c.in-Some.ensures.first.within,
      fewer c.self.inside.outline.now,
      front_kept c.self.inside.outline.now c.self.inside.next c.self.inside.path.items c.self.invariant.after c.args.self.now c.self.view_is c.in-Some.leaf c.sequence_outer-outer.result c.front_up_to-front.result c.in-Some.ensures.first c.sequence_outer-outer.ensures
          (rw c.deref.ensures.value at c.front_up_to-front.ensures),
    )

pub invariant_of-self : goal.invariant_of-self
invariant_of-self c = rw c.reserve.ensures.items c.self.invariant

pub returns-in_err-reserve-clause-unchanged : goal.returns-in_err-reserve-clause-unchanged
returns-in_err-reserve-clause-unchanged c =
    rw ((err_from_is_err_and c.from_residual.result c.from_residual.ensures.1).1, c.reserve.ensures.items) c.self.view_is

pub loop-sequence-init : goal.loop-sequence-init
loop-sequence-init c =
    let none : c.self.inside.next - c.self.inside.next ≡ 0 = omega arith in
    record { appended = rw (none, append-nil) refl; room = search rules }

pub unwrap-requires : goal.unwrap-requires
unwrap-requires c = search (rules, length-append, length-range_with_len)

pub loop-sequence-preserved : goal.loop-sequence-preserved
loop-sequence-preserved c =
    let next = c.self.inside.next in
    let done = c.loop-sequence.sequence - next in
    let here : next + done ≡ c.loop-sequence.sequence = omega arith in
    let count : done + 1 ≡ c.loop-sequence.sequence + 1 - next = omega arith in
    let pushed : c.push.new.self.items ≡ c.loop-sequence.path.items ++ c.loop-sequence.sequence ∷ [] = rw c.unwrap.ensures at c.push.ensures.items in
    grind (arith, common_steps, append_assoc c.truncate.new.self.items (range_with_len next done) (c.loop-sequence.sequence ∷ []), range_append next done 1)

-- the sequences down to the leaf were put after those of the front
went : (c : After-sequence_start) → c.loop-sequence.path.items
    ≡ take c.front_up_to-front.result.sequences c.self.inside.path.items ++ range_with_len c.self.inside.next (c.in-Some.leaf + 1 - c.self.inside.next)
went c =
    let all : c.loop-sequence.sequence ≡ c.in-Some.leaf + 1 = omega (arith, c.in-Some.ensures.first.from_there) in
    rw (c.truncate.ensures.items, c.reserve.ensures.items, all) at c.loop-sequence.invariant.appended

pub overflow_sub-count : goal.overflow_sub-count
overflow_sub-count c =
    omega (
      arith,
      c.sequence_start.ensures,
      c.sequence_end.ensures.end,
      next_rises c.self.inside.outline.now c.self.inside.next c.self.inside.path.items c.self.invariant.after c.args.self.now c.self.view_is c.in-Some.leaf c.sequence_outer-outer.result c.front_up_to-front.result c.in-Some.ensures.first c.sequence_outer-outer.ensures
          (rw c.deref.ensures.value at c.front_up_to-front.ensures),
    )

pub overflow_add-self : goal.overflow_add-self
overflow_add-self c =
    omega (
      arith,
      c.in-Some.ensures.few,
      next_few c.self.inside.outline.now c.self.inside.next c.self.inside.path.items c.self.invariant.after c.args.self.now c.self.view_is c.in-Some.leaf c.sequence_outer-outer.result c.front_up_to-front.result c.in-Some.ensures.first c.sequence_outer-outer.ensures
          (rw c.deref.ensures.value at c.front_up_to-front.ensures)
          c.sequence_start.result c.sequence_end.result c.sequence_start.ensures c.sequence_end.ensures.end,
    )

pub invariant_of-self-2 : goal.invariant_of-self-2
invariant_of-self-2 c =
    kept_further c.self.inside.outline.now c.self.inside.next c.self.inside.path.items c.self.invariant.after c.args.self.now c.self.view_is c.in-Some.leaf c.sequence_outer-outer.result c.front_up_to-front.result c.in-Some.ensures.first c.sequence_outer-outer.ensures
    (rw c.deref.ensures.value at c.front_up_to-front.ensures)
    c.loop-sequence.path.items (went (goal.at.invariant_of-self-2 c).After-sequence_start) c.sequence_start.result c.sequence_end.result c.sequence_start.ensures c.sequence_end.ensures.end

pub returns-clause-moved : goal.returns-clause-moved
returns-clause-moved c =
    moved c.self.inside.outline.now c.self.inside.next c.self.inside.path.items c.self.invariant.after c.args.self.now c.self.view_is c.in-Some.leaf c.sequence_outer-outer.result c.front_up_to-front.result c.in-Some.ensures.first c.sequence_outer-outer.ensures
    (rw c.deref.ensures.value at c.front_up_to-front.ensures)

pub returns-clause-shared : goal.returns-clause-shared
returns-clause-shared c =
    shares_front c.self.inside.outline.now c.self.inside.next c.self.inside.path.items c.self.invariant.after c.args.self.now c.self.view_is c.in-Some.leaf c.sequence_outer-outer.result c.front_up_to-front.result c.in-Some.ensures.first c.sequence_outer-outer.ensures
    (rw c.deref.ensures.value at c.front_up_to-front.ensures)
    (parts_of c.self.inside.outline.now 0 c.loop-sequence.path.items)
    (goes_on c.self.inside.outline.now c.self.inside.next c.self.inside.path.items c.self.invariant.after c.args.self.now c.self.view_is c.in-Some.leaf c.sequence_outer-outer.result c.front_up_to-front.result c.in-Some.ensures.first c.sequence_outer-outer.ensures
    (rw c.deref.ensures.value at c.front_up_to-front.ensures)
    c.loop-sequence.path.items (went (goal.at.returns-clause-shared c).After-sequence_start))
