-- What splitting leaves unchanged. A line of the split text has the nodes of
-- the line that it came from, at other places, and the same verdict.
use Rattle.std.specs.Prelude.{◌≡◌, ℕ, Bool, List, Some, slice_get}
use Rattle.std.specs.List.{AllZip}
use Rattle.sgf_outline.specs.Tree.{Node}
use Rattle.go_board.specs.declared.reason.Reason.{Reason}
use Rattle.tree_lines.specs.Lines.{Line}
use Rattle.judged_lines.specs.declared.verdict.Verdict.TheVariants.{Score, Illegal, NotGo, BadSize}
use Rattle.judged_lines.specs.declared.verdict.Verdict.{Verdict}
use Rattle.judged_lines.specs.Verdict.{verdict}

-- two nodes have the same properties
abbrev pub HaveSame : Node → Node → Type 0
HaveSame node other = node.properties ≡ other.properties

-- The verdicts on `nodes` and on `others` are the same, except that each names the
-- illegal node by its own place. This node has the same index in both lists.
pub data SaysSame (nodes others : List Node) : Verdict → Verdict → Type 0 where
  scored : {black white : ℕ} {over : Bool} → SaysSame nodes others (Score black white over) (Score black white over)
  illegal_at : {turn : ℕ} {reason : Reason} {node other : Node} (index : ℕ) → slice_get nodes index ≡ Some node → slice_get others index ≡ Some other
      → SaysSame nodes others (Illegal turn node.place reason) (Illegal turn other.place reason)
  another_game : SaysSame nodes others NotGo NotGo
  another_size : SaysSame nodes others BadSize BadSize

-- a line, and the line that it became
pub record IsKept (line other : Line) : Type 0 where
  pub nodes : AllZip HaveSame line.nodes other.nodes
  pub says : SaysSame line.nodes other.nodes (verdict line) (verdict other)
