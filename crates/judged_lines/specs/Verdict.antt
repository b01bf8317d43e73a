-- The verdict of a line: the area score at its end, or the first node that
-- is illegal (Tromp-Taylor), or that the line isn't judged.
use Rattle.std.specs.Prelude.{◌≡◌, ℕ, ◌+◌, Option, Some, None, option_map, List, [], slice_get}
use Rattle.sgf_outline.specs.Tree.{Node, Games}
use Rattle.sgf_outline.specs.FileOrder.{place_at}
use Rattle.board_stones.specs.declared.stones.Colour.TheVariants.{Black, White}
use Rattle.board_stones.specs.Score.{score_of}
use Rattle.go_board.specs.State.{State, is_over}
pub use Rattle.judged_lines.specs.declared.verdict.Verdict.{Verdict}
pub use Rattle.judged_lines.specs.declared.verdict.Verdict.TheVariants.{Score, Illegal, NotGo, BadSize}
use Rattle.tree_lines.specs.Lines.{Line, lines, place_of}
use Rattle.tree_lines.specs.Paths.{paths, leaf_of}
use Rattle.judged_lines.specs.JudgedGames.{GameKind, not_go, bad_size, board, game_kind, root_properties}
use Rattle.judged_lines.specs.Walk.{IllegalNode, Walk, walk, judged_by}

-- the scores of a state, and whether two passes in a row ended the game
abbrev pub score_in : State → Verdict
score_in state = Score (score_of state.colouring Black) (score_of state.colouring White) (is_over state)

-- for an illegal node: the number of the turn that would have come, the place of the node, and the reason
abbrev pub verdict_with : State → Option IllegalNode → Verdict
verdict_with state None = score_in state
verdict_with state (Some met) = Illegal (state.turns + 1) met.node.place met.reason

-- the verdict of a walk
abbrev pub verdict_at : Walk → Verdict
verdict_at walked = verdict_with walked.state walked.illegal

abbrev pub verdict_by : GameKind → List Node → Verdict
verdict_by not_go nodes = NotGo
verdict_by bad_size nodes = BadSize
verdict_by (board side) nodes = verdict_at (walk side nodes)

-- the verdict of the nodes of a line, the root first
abbrev pub verdict_of : List Node → Verdict
verdict_of nodes = verdict_by (game_kind (root_properties nodes)) nodes

abbrev pub verdict : Line → Verdict
verdict line = verdict_of line.nodes

-- the judged nodes of a line: all, or those up to and including the first that is illegal, or none
abbrev pub judged_on : GameKind → List Node → List Node
judged_on not_go nodes = []
judged_on bad_size nodes = []
judged_on (board side) nodes = judged_by (walk side nodes)

abbrev pub judged_nodes : Line → List Node
judged_nodes line = judged_on (game_kind (root_properties line.nodes)) line.nodes

-- the verdict of the line that ends in the node with this number
pub record IsVerdictAt (games : Games) (leaf : ℕ) (told : Verdict) : Type 0 where
  pub index : ℕ
  pub line : Line
  pub found : slice_get (lines games) index ≡ Some line
  pub ends : option_map leaf_of (slice_get (paths games) index) ≡ Some leaf
  pub placed : place_at games leaf ≡ Some (place_of line)
  pub verdict_is : told ≡ verdict line

-- the verdict of a line of the collection that has this place
pub record IsVerdictOf (games : Games) (place : ℕ) (told : Verdict) : Type 0 where
  pub index : ℕ
  pub line : Line
  pub found : slice_get (lines games) index ≡ Some line
  pub placed : place_of line ≡ place
  pub verdict_is : told ≡ verdict line
