-- The line before a cursor's next one, how the next line's path follows from it, and how many lines end before a node.
use Rattle.std.specs.Prelude.{◌≡◌, ℕ, suc, zero, ◌+◌, ◌≤◌, List, [], ◌∷◌, ◌++◌, length, take, slice_get, nat_lt, Option, Some, None}
use Rattle.std.specs.List.{prefix_len, range_with_len}
use Rattle.sgf_outline.specs.Tree.{Node, Games}
use Rattle.tree_lines.specs.Lines.{Line, lines, last_number}
use Rattle.tree_lines.specs.Paths.{Path, paths, leaf_of}
use Rattle.tree_lines.specs.Cursor.{CursorState}

-- the first node after a line's nodes, in file order; before the first line it is the first node of all
abbrev pub first_after : List ℕ → ℕ
first_after [] = 0
first_after (number ∷ numbers) = last_number (number ∷ numbers) + 1

-- The new path keeps the first `kept` nodes of the old path. The nodes from the first one after the old line, down to the new leaf,
-- come after these.
pub record Continues (old : List ℕ) (kept : ℕ) (new : List ℕ) : Type 0 where
  pub kept_within : kept ≤ length old
  pub more : ℕ
  pub new_is : new ≡ take kept old ++ range_with_len (first_after old) (more + 1)

-- the numbers of a path; none if there is no path
abbrev pub numbers_of : Option Path → List ℕ
numbers_of None = []
numbers_of (Some path) = path.numbers

-- the path of the line before the one with this index, from 0; none before the first line
abbrev pub numbers_before : Games → ℕ → List ℕ
numbers_before games zero = []
numbers_before games (suc index) = numbers_of (slice_get (paths games) index)

-- the path of the line before a cursor's next one, as numbers of nodes; none before the first line
abbrev pub path_before : CursorState → List ℕ
path_before cursor = numbers_before cursor.games cursor.index

-- the nodes of a line, the root first; none if there is no line
abbrev pub nodes_of : Option Line → List Node
nodes_of None = []
nodes_of (Some line) = line.nodes

-- the line before the one with this index, from 0; None before the first line
abbrev pub line_in : Games → ℕ → Option Line
line_in games zero = None
line_in games (suc index) = slice_get (lines games) index

-- the line before a cursor's next one, and its nodes; none before the first line
abbrev pub line_before : CursorState → Option Line
line_before cursor = line_in cursor.games cursor.index

abbrev pub nodes_before : CursorState → List Node
nodes_before cursor = nodes_of (line_before cursor)

-- how many lines end before the node with this number
abbrev pub lines_before : Games → ℕ → ℕ
lines_before games number = prefix_len (λ path. nat_lt (leaf_of path) number) (paths games)
