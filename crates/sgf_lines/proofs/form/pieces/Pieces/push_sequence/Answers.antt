-- The sequence was begun after what was begun already, and then it was finished.
use Rattle.sgf_lines.proofs.Common.{◌≡◌, ◌++◌, List, slice_get, Some, arith, flat_map, common_steps, Node, nodes_before, node_text, sequences_before, as_many_parts, element}
use Rattle.sgf_lines.proofs.PieceTexts.{seen, seen_pushed}
use Rattle.sgf_lines.proofs.form.pieces.Pieces.push_sequence.Goals as goal
use Rattle.sgf_lines.proofs.form.pieces.Pieces.push_sequence.Goals.{In_ok-push_sequence}

nodes : (c : In_ok-push_sequence) → (nodes : List Node) × (slice_get (sequences_before c.args.cursor.now) c.args.index ≡ Some nodes)
nodes c =
    let cursor = c.args.cursor.now in
    element (sequences_before cursor) c.args.index (omega (arith, as_many_parts 0 cursor.ends (nodes_before cursor.at), c.requires))

text_is : (c : In_ok-push_sequence) → c.push_sequence.new.out.items ≡ c.self.inside.text.items ++ flat_map node_text (nodes c).0
text_is c = rw (nodes c).1 at c.in_ok-push_sequence.ensures.appended

pub invariant_of-self-2 : goal.invariant_of-self-2
invariant_of-self-2 c = grind (arith, common_steps, text_is ((goal.at.invariant_of-self-2 c).In_ok-push_sequence), nodes ((goal.at.invariant_of-self-2 c).In_ok-push_sequence), seen_pushed)

pub returns : goal.returns
returns c = grind (arith, common_steps, seen, seen_pushed)
