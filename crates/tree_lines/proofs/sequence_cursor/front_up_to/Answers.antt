-- One step back leaves one sequence out.
use Rattle.tree_lines.proofs.Common.{◌≡◌, ◌≤◌, ◌<◌, ◌-◌, ◌+◌, ℕ, inl, inr, length, get_or, take, sym, ap, ◌∙◌, arith, rules, take-length, cases_eq, slice_get-get_or, slice_get_within, sequence_starts, parts_of, part_numbers, sequence_length}
use Rattle.tree_lines.proofs.SequenceParts.{length-parts_of, part_number, one_back}
use Rattle.tree_lines.proofs.SequenceCuts.{nodes_are}
use Rattle.tree_lines.proofs.sequence_cursor.front_up_to.Goals as goal
use Rattle.tree_lines.proofs.sequence_cursor.front_up_to.Goals.{Then-path-sequences}

-- the last sequence of the front
abbrev last : Then-path-sequences → ℕ
last c = get_or c.args.path.now (c.loop-sequences.sequences - 1) 0

back : (c : Then-path-sequences) → (last c < length (sequence_starts c.args.outline.now))
    × (length (part_numbers c.args.outline.now (take c.loop-sequences.sequences (parts_of c.args.outline.now 0 c.args.path.now)))
    ≡ length (part_numbers c.args.outline.now (take (c.loop-sequences.sequences - 1) (parts_of c.args.outline.now 0 c.args.path.now))) + sequence_length c.args.outline.now (last c))
back c =
    let path = c.args.path.now in
    let i = c.loop-sequences.sequences - 1 in
    let there = slice_get-get_or path i 0 (omega (arith, c.loop-sequences.invariant.within, c.loop-sequences-test.true)) in
    let one : i + 1 ≡ c.loop-sequences.sequences = omega (arith, c.loop-sequences-test.true) in
    rw one at (one_back c.args.outline.now path i (last c) c.requires.parts there)

pub loop-sequences-init : goal.loop-sequences-init
loop-sequences-init c = search (rules, length-parts_of, take-length, slice_get_within)

pub sequence_end-requires : goal.sequence_end-requires
sequence_end-requires c = (back (goal.at.sequence_end-requires c).Then-path-sequences).0

pub sequence_start-requires : goal.sequence_start-requires
sequence_start-requires c = (back (goal.at.sequence_start-requires c).Then-path-sequences).0

pub overflow_sub-nodes-in-loop-sequences : goal.overflow_sub-nodes-in-loop-sequences
overflow_sub-nodes-in-loop-sequences c =
    let b = back (goal.at.overflow_sub-nodes-in-loop-sequences c).Then-path-sequences in
    omega (arith, b.1, c.loop-sequences.invariant.count, c.sequence_end.ensures.end, c.sequence_start.ensures)

pub loop-sequences-preserved : goal.loop-sequences-preserved
loop-sequences-preserved c =
    let b = back (goal.at.loop-sequences-preserved c).Then-path-sequences in
    let path = c.args.path.now in
    let i = c.loop-sequences.sequences - 1 in
    record {
      within = omega (arith, c.loop-sequences.invariant.within);
      count = omega (arith, b.1, c.loop-sequences.invariant.count, c.sequence_end.ensures.end, c.sequence_start.ensures);
      others = λ j part low there. elim (cases_eq j i) [
        | inl same ↦ λ e. c.if-path-sequences.true (ap (λ k. get_or path k 0) (sym same) ∙ sym (part_number c.args.outline.now 0 path j 0 part there) ∙ e)
        | inr other ↦ c.loop-sequences.invariant.others j part (omega arith) there
      ];
    }

pub returns-else-path-sequences : goal.returns-else-path-sequences
returns-else-path-sequences c =
    let games = c.args.outline.now in
    let path = c.args.path.now in
    let i = c.loop-sequences.sequences - 1 in
    let within : c.loop-sequences.sequences ≤ length (parts_of games 0 path) = omega (arith, c.loop-sequences.invariant.within, length-parts_of games 0 path) in
    rw c.in-Some.is
    (record {
      within = within;
      count = c.loop-sequences.invariant.count ∙ sym (nodes_are games (parts_of games 0 path) c.requires.parts c.loop-sequences.sequences within);
      others = c.loop-sequences.invariant.others;
      last = λ j part at there. let same : j ≡ i = omega arith in part_number games 0 path j 0 part there ∙ ap (λ k. get_or path k 0) same ∙ c.if-path-sequences.false;
    })
