use Rattle.sgf_outline.proofs.Common.{◌≡◌, ◌+◌, ◌∙◌, [], ◌∷◌, ◌++◌, drop, length, slice_range, refl, sym, ap, arith, append_assoc, append-nil, rules, take, take_at, flat_map, nodes_at, sequence_numbers, AreWhole, node_text}
use Rattle.sgf_outline.proofs.Outlined.{IsEntryOf, entry-in}
use Rattle.sgf_outline.proofs.SegmentsKept.{text_by, whole-first, whole-within}
use Rattle.sgf_outline.proofs.outline.Outline.push_sequence.Goals as goal
use Rattle.sgf_outline.proofs.outline.Outline.push_sequence.Goals.{After-index-sequence, After-index-segment}

-- what the entry says of the sequence
entry : (c : After-index-sequence) → IsEntryOf c.self.inside.text.now c.self.inside.sequences.segments.items c.args.self.now c.args.i c.index-sequence.result.now
entry c = entry-in c.self.inside.text.now c.self.inside.sequences c.self.invariant.0 _ c.self.view_is c.args.i c.index-sequence.result.now c.requires c.index-sequence.ensures

pub slice_bounds-written-count : goal.slice_bounds-written-count
slice_bounds-written-count c = omega (arith, (entry (goal.at.slice_bounds-written-count c).After-index-sequence).rises (sym c.is_written.ensures ∙ c.if-is_written.true))

pub slice_bounds-written-start : goal.slice_bounds-written-start
slice_bounds-written-start c = omega (arith, (entry (goal.at.slice_bounds-written-start c).After-index-sequence).rises (sym c.is_written.ensures ∙ c.if-is_written.true))

pub slice_bounds-written-end : goal.slice_bounds-written-end
slice_bounds-written-end c = (entry (goal.at.slice_bounds-written-end c).After-index-sequence).in_text (sym c.is_written.ensures ∙ c.if-is_written.true)

pub returns-then-is_written-clause-appended : goal.returns-then-is_written-clause-appended
returns-then-is_written-clause-appended c = search (rules, entry)

pub segments-init : goal.segments-init
segments-init c = record {
  left = flat_map node_text (nodes_at c.args.self.now (sequence_numbers c.args.self.now c.args.i));
  whole = (entry (goal.at.segments-init c).After-index-sequence).segmented (sym c.is_written.ensures ∙ c.if-is_written.false);
  appended = refl;
  goes_on = ([], sym (append-nil c.args.out.now.items));
}

pub index-segment-requires : goal.index-segment-requires
index-segment-requires c =
    let kept = c.self.inside.sequences.segments in
    omega (arith, whole-within c.self.inside.text.now kept.items c.segments.at c.segments.invariant.left c.segments.invariant.whole, kept.ok.0)

-- the segment at the index, and those after it
first : (c : After-index-segment) → AreWhole c.self.inside.text.now (c.index-segment.result.now ∷ drop (c.segments.at + 1) c.self.inside.sequences.segments.items) c.segments.invariant.left
first c = whole-first c.self.inside.text.now c.self.inside.sequences.segments.items c.segments.at c.segments.invariant.left c.index-segment.result.now c.segments.invariant.whole c.index-segment.ensures

pub slice_bounds-copied-start : goal.slice_bounds-copied-start
slice_bounds-copied-start c = omega (arith, (first (goal.at.slice_bounds-copied-start c).After-index-segment).1.rises, c.start.ensures)

pub slice_bounds-copied-end : goal.slice_bounds-copied-end
slice_bounds-copied-end c = (first (goal.at.slice_bounds-copied-end c).After-index-segment).1.within

pub returns-then-is_last-clause-appended : goal.returns-then-is_last-clause-appended
returns-then-is_last-clause-appended c =
    let (rest, is, last, next) = first (goal.at.returns-then-is_last-clause-appended c).After-index-segment in
    let text = c.self.inside.text.now in
    let segment = c.index-segment.result.now in
    let all : slice_range text c.start.result segment.end ≡ c.segments.invariant.left = ap (λ start. slice_range text start segment.end) c.start.ensures
    ∙ sym (append-nil (text_by text segment)) ∙ ap (λ more. text_by text segment ++ more) (sym (last (sym c.is_last.ensures ∙ c.if-is_last.true))) ∙ sym is.are in
    let pushed : c.extend_from_slice-in-segments.new.self.items ≡ c.segments.out.items ++ slice_range text c.start.result segment.end = search rules in
    pushed ∙ ap (λ more. c.segments.out.items ++ more) all ∙ c.segments.invariant.appended

pub segments-preserved : goal.segments-preserved
segments-preserved c =
    let (rest, is, last, next) = first (goal.at.segments-preserved c).After-index-segment in
    search (rules, first, slice_range, append_assoc)

pub returns-then-is_err-clause-unchanged : goal.returns-then-is_err-clause-unchanged
returns-then-is_err-clause-unchanged c =
    let same : c.extend_from_slice-in-segments.new.self.items ≡ c.segments.out.items = search rules in
    let count : length c.args.out.now.items ≡ c.len-before.result = omega (arith, c.len-before.ensures, c.args.out.now.ok.0) in
    c.truncate.ensures.items ∙ ap (take c.len-before.result) (same ∙ c.segments.invariant.goes_on.1) ∙ take_at _ _ _ count
