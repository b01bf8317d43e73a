-- Which nodes a run plays: each node that is judged on some line of its page, once, however many lines share the node.
use Rattle.std.specs.Prelude.{ℕ, Bool, true, false, ◌==◌, if◌then◌else◌, List, [], ◌∷◌, map, filter}
use Rattle.std.specs.List.{flat_map}
use Rattle.sgf_outline.specs.Tree.{Node, Games}
use Rattle.sgf_outline.specs.FileOrder.{ordered_nodes}
use Rattle.tree_lines.specs.Lines.{Line}
use Rattle.judged_lines.specs.Verdict.{judged_nodes}

-- whether two numbers differ
abbrev pub differ : ℕ → ℕ → Bool
differ n m = if n == m then false else true

-- each number of a list once, at its first position
abbrev pub different : List ℕ → List ℕ
different [] = []
different (n ∷ ns) = n ∷ filter (differ n) (different ns)

abbrev pub places_of : List Node → List ℕ
places_of nodes = map (λ n. n.place) nodes

-- the places of all nodes of a collection, in file order
abbrev pub node_places : Games → List ℕ
node_places games = map (λ ordered. ordered.node.place) (ordered_nodes games)

-- the places of the nodes on these lines, each once
abbrev pub touched_places : List Line → List ℕ
touched_places lines = different (flat_map (λ line. places_of line.nodes) lines)

-- the places of a line's judged nodes: all nodes up to and including the first that is illegal
abbrev pub judged_places : Line → List ℕ
judged_places line = places_of (judged_nodes line)

-- The places of the nodes that are judged on these lines, each once. Nodes of
-- one text have different places, so there are as many places as nodes.
abbrev pub all_judged_places : List Line → List ℕ
all_judged_places lines = different (flat_map judged_places lines)
