-- The verdict of the line before a cursor, of the line that ends in a leaf, and of the line that has a place.
use Rattle.judged_lines.proofs.Common.{common_steps, MemoryFault, IsLeaf, Node, Games, node_count, CursorState, nodes_of, line_before, nodes_before, Line, Path, Verdict, game_kind, root_properties, Judgement, judging, verdict_of, verdict, IsVerdictAt, verdict_in, ◌≡◌, ℕ, ◌<◌, List, length, Option, Some, ap, ◌∙◌, arith, rules, ◌+◌, option_map, Result, IfOk, IsNextLine, next_line, before, line_at}
use Rattle.judged_lines.proofs.Judgements.{judging_verdict}

pub verdict_is : (nodes : List Node) (j : Judgement) (v : Verdict) → v ≡ verdict_in j → j ≡ judging (game_kind (root_properties nodes)) nodes → v ≡ verdict_of nodes
verdict_is nodes j v e h = e ∙ ap verdict_in h ∙ judging_verdict (game_kind (root_properties nodes)) nodes

-- where it has a node there is a line
pub some_line : (at : CursorState) → 0 < length (nodes_before at) → (l : Line) × (line_before at ≡ Some l)
some_line at known = search rules

-- the verdict of a line's nodes is the line's
pub told_of : (line : Option Line) (v : Verdict) → 0 < length (nodes_of line) → v ≡ verdict_of (nodes_of line) → option_map verdict line ≡ Some v
told_of line v known known2 = search rules

module _ (c : Games) (leaf : ℕ) (lt : leaf < node_count c) (is_leaf : IsLeaf c leaf) where
  own : (path : Path) × IsNextLine c leaf leaf path
  own = next_line c leaf leaf (omega arith) lt is_leaf (λ j le below l. omega arith)

  pub some_before : (at : CursorState) → at ≡ before c (leaf + 1) → 0 < at.index
  some_before at is = omega (arith, own.1.one_more, ap (λ (s : CursorState). s.index) is)

  pub judged_at : (at : CursorState) → at ≡ before c (leaf + 1) → (told : Result Verdict MemoryFault) → IfOk told (λ v. option_map verdict (line_before at) ≡ Some v)
      → IfOk told (IsVerdictAt c leaf)
  judged_at at is known2 told = grind (arith, common_steps, line_at, own, verdict_is)
