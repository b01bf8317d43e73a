-- A record in sgf form goes on by sequences, and back.
use Rattle.sgf_lines.proofs.Common.{concat, take-map, map-append, Node, nodes_before, RiseTo, SequencesState, IsHeldOf, node_text, PiecesState, pushed, closed, cut, sequences_before, unclosed_record, whole_record, common_steps, ◌≡◌, ℕ, ◌+◌, ◌<◌, List, [], ◌∷◌, ◌++◌, length, take, map, slice_get, Some, refl, ap, add-one, arith, rules, flat_map, by_old, has_front, same_nodes, alike, end_of, front_more}
use Rattle.tree_lines.specs.declared.sequence_cursor.Front.{Front}

-- one sequence more
pub record_more : (sequences : List (List Node)) (i : ℕ) (nodes : List Node) → slice_get sequences i ≡ Some nodes
    → closed (pushed (unclosed_record (take i sequences)) (flat_map node_text nodes)) ≡ unclosed_record (take (i + 1) sequences)
record_more sequences i nodes e = grind (arith, common_steps, map-append (flat_map node_text) (take i sequences) (nodes ∷ []), front_more sequences i nodes e)

-- back to the first sequences of a line
pub record_back : (sequences : List (List Node)) (k : ℕ) → cut (k + 1) (whole_record sequences) ≡ unclosed_record (take k sequences)
record_back sequences k = grind (arith, common_steps, add-one, take-map)

-- the record of a line is kept of the next one, as far as it begins alike
pub record_kept : (holds : SequencesState → Type 0) (cursor : SequencesState) (front : Front) → IsHeldOf holds cursor front
    → (game : PiecesState) → ((old : SequencesState) → holds old → game ≡ whole_record (sequences_before old)) → RiseTo 0 cursor.ends (length (nodes_before cursor.at))
    → 0 < front.sequences → cut (front.sequences + 1) game ≡ unclosed_record (take front.sequences (sequences_before cursor))
record_kept holds cursor front held game of rise some = search (rules, by_old, same_nodes, end_of, has_front, alike, record_back)

-- its text
pub joined : {X : Type 0} (f : X → List ℕ) (xs : List X) → concat (map f xs) ≡ flat_map f xs
joined f [] = refl
joined f (x ∷ xs) = ap (λ t. f x ++ t) (joined f xs)
