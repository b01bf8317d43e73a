-- Each sequence follows those before it, until all nodes are there.
use Rattle.tree_lines.proofs.Common.{◌≡◌, ℕ, ◌+◌, ◌-◌, ◌++◌, List, [], ◌∷◌, length, drop, refl, sym, ap, ◌∙◌, append_assoc, append-nil, length-append, arith, rules, common_steps, take-append-drop, range_with_len, length-range_with_len, nodes_before, path_before, nodes_in}
use Rattle.tree_lines.proofs.Lists.{range_append}
use Rattle.tree_lines.proofs.Fronts.{next_part, none_after}
use Rattle.tree_lines.proofs.LineNodes.{as_long}
use Rattle.tree_lines.proofs.cursor.write_path.Goals as goal
use Rattle.tree_lines.proofs.cursor.write_path.Goals.{After-numbers-first}

-- the numbers of the next sequence
abbrev next_range : (c : After-numbers-first) → List ℕ
next_range c = range_with_len c.numbers-first.result.0 (c.numbers-first.result.1 - c.numbers-first.result.0)

module _ (c : After-numbers-first) where
  abbrev rest : List ℕ
  rest = drop (nodes_in c.args.sequences.now.ends (c.loop-index.index + 1)) (path_before c.args.sequences.now.at)

  next : drop (nodes_in c.args.sequences.now.ends c.loop-index.index) (path_before c.args.sequences.now.at) ≡ next_range c ++ rest
  next = search (rules, next_part)

pub loop-index-init : goal.loop-index-init
loop-index-init c = search (rules, take-append-drop)

pub loop-number-init : goal.loop-number-init
loop-number-init c =
    let first = c.numbers-first.result.0 in
    let none : first - first ≡ 0 = omega arith in
    record { appended = rw (none, append-nil) refl; room = search (rules, as_long, next, length-append, length-range_with_len); all = c.loop-index.invariant.room }

pub unwrap-requires : goal.unwrap-requires
unwrap-requires c = grind (arith, common_steps, length-append, length-range_with_len)

pub loop-number-preserved : goal.loop-number-preserved
loop-number-preserved c =
    let first = c.numbers-first.result.0 in
    let done = c.loop-number.number - first in
    let here : first + done ≡ c.loop-number.number = omega arith in
    let count : done + 1 ≡ c.loop-number.number + 1 - first = omega arith in
    let pushed : c.push.new.self.items ≡ c.loop-number.path.items ++ c.loop-number.number ∷ [] = rw c.unwrap.ensures at c.push.ensures.items in
    grind (arith, common_steps, append_assoc c.loop-index.path.items (range_with_len first done) (c.loop-number.number ∷ []), range_append first done 1)

pub loop-index-preserved : goal.loop-index-preserved
loop-index-preserved c =
    let all : c.loop-number.number ≡ c.numbers-first.result.1 = omega arith in
    search (rules, append_assoc, next)

pub returns : goal.returns
returns c =
    let ends = c.args.sequences.now.ends in
    let path = path_before c.args.sequences.now.at in
    let last : c.loop-index.index ≡ length ends = omega (arith, c.loop-index-test.false, c.loop-index.auto.index-end, c.requires.within, c.sequences-count.ensures.count) in
    let none = none_after ends path (length (nodes_before c.args.sequences.now.at)) c.loop-index.index c.sequences-count.ensures.divided (sym (as_long c.args.sequences.now.at)) last in
    sym (append-nil c.loop-index.path.items) ∙ ap (λ ns. c.loop-index.path.items ++ ns) (sym none) ∙ c.loop-index.invariant.up_to
