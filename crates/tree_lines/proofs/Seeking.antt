-- The place of the leaf that a line ends in, and the position after that line.
use Rattle.tree_lines.proofs.Common.{◌≡◌, ℕ, ◌+◌, ◌<◌, List, Some, ap, ◌∙◌, arith, ◌≢◌, get_or, common_steps, slice_get_within, get_or_from_slice_get, IsLeaf, place_at, Games, node_count, CursorState, IsAfterPlace, lines, place_of, HasNoLineAt, paths, leaf_of, IsPathTo, IsAfterLeaf, length-nodes_from}
use Rattle.tree_lines.proofs.Visits.{leads}
use Rattle.tree_lines.proofs.CursorStates.{next_line, before}
use Rattle.tree_lines.proofs.Lists.{element}
use Rattle.tree_lines.proofs.Named.{line_at, length-paths}

pub place_within : (c : Games) (i here : ℕ) → place_at c i ≡ Some here → i < node_count c
place_within c i here e = grind (arith, common_steps, length-nodes_from, slice_get_within)

pub stands_after : (c : Games) (leaf : ℕ) (numbers : List ℕ) → leaf < node_count c → IsLeaf c leaf → IsPathTo c (Some leaf) numbers → IsAfterLeaf c (leaf + 1) numbers
stands_after c leaf numbers lt is_leaf way = grind (arith, common_steps)

-- after the leaf with the place
pub sought : (c : Games) (leaf place : ℕ) (at : CursorState) → at.games ≡ c → leaf < node_count c → IsLeaf c leaf → place_at c leaf ≡ Some place → IsAfterPlace place at (before c (leaf + 1))
sought c leaf place at games lt is_leaf placed =
    let own = next_line c leaf leaf (omega arith) lt is_leaf (λ j le below l. omega arith) in
    grind (arith, common_steps, line_at)

-- where no leaf has the place, no line has it
pub no_line : (c : Games) (place : ℕ) → ((leaf : ℕ) → IsLeaf c leaf → place_at c leaf ≢ Some place) → HasNoLineAt c place
no_line c place none = λ k d lt e.
    let p = element (paths c) k (omega (arith, length-paths c, lt)) in
    let l = line_at c k p.0 p.1 in
    let line : get_or (lines c) k d ≡ l.0 = get_or_from_slice_get (lines c) k l.0 d l.1.found in
    let placed : place_of l.0 ≡ place = rw line at e in
    none (leaf_of p.0) (leads c k p.0 p.1).is_leaf (l.1.place ∙ ap Some placed)
