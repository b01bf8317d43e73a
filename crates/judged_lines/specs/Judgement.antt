-- The judgement on a line after its first nodes, and the step of each legal one of them.
use Rattle.std.specs.Prelude.{◌≡◌, ◌<◌, ◌+◌, ℕ, Option, Some, None, List, [], ◌∷◌, fold, length, codes, option_copied, Result, Ok, Err}
use Rattle.sgf_outline.specs.Tree.{Node}
use Rattle.go_board.specs.declared.reason.Reason.{Reason}
use Rattle.board_stones.specs.Grid.{Grid}
use Rattle.go_board.specs.State.{State, States, begun, followed_by, IsPlayOn}
use Rattle.judged_lines.specs.NodeContents.{Move, Stones, moves, stones, first_value}
use Rattle.judged_lines.specs.NodeValues.{move_value}
use Rattle.judged_lines.specs.JudgedGames.{GameKind, not_go, bad_size, board}
use Rattle.judged_lines.specs.Step.{step}
use Rattle.judged_lines.specs.Walk.{LegalNode}
use Rattle.judged_lines.specs.declared.verdict.Verdict.{Verdict}
use Rattle.judged_lines.specs.declared.verdict.Verdict.TheVariants.{Illegal, NotGo, BadSize}
use Rattle.judged_lines.specs.declared.judging.step.Effect.{Effect}
use Rattle.judged_lines.specs.declared.judging.step.Effect.TheVariants.{Nothing, Stones as stones_set, Play as one_play}
use Rattle.judged_lines.specs.declared.judging.step.LegalStep.{LegalStep}

-- Either the game isn't judged, and the verdict is `told`. Or a referee has these states, one more
-- than the nodes that were allowed; if a node wasn't allowed, `ended` is the verdict.
pub data Judgement : Type 0 where
  unjudged : (told : Verdict) → Judgement
  judged : (states : States) → (ended : Option Verdict) → Judgement

-- the judgement before the root
abbrev pub begun_game : GameKind → Judgement
begun_game not_go = unjudged NotGo
begun_game bad_size = unjudged BadSize
begun_game (board side) = judged (begun side) None

-- a step that was taken adds a state; a refused step decides the verdict
abbrev pub stepped : States → Node → Result State Reason → Judgement
stepped states node (Ok state) = judged (followed_by states state) None
stepped states node (Err reason) = judged states (Some (Illegal (states.present.turns + 1) node.place reason))

-- the judgement after one more node
abbrev pub after : Judgement → Node → Judgement
after (unjudged told) node = unjudged told
after (judged states (Some told)) node = judged states (Some told)
after (judged states None) node = stepped states node (step states.present node)

-- the judgement after these nodes
abbrev pub judging : GameKind → List Node → Judgement
judging kind nodes = fold after (begun_game kind) nodes

-- the present board; None if the game isn't judged
abbrev pub board_in : Judgement → Option Grid
board_in (unjudged told) = None
board_in (judged states ended) = Some states.present.colouring

-- the effect of moves and stones on a board of that side
abbrev pub IsEffectBy : ℕ → List Move → List Stones → Effect → Type 0
IsEffectBy side moves stones Nothing = (moves ≡ []) × (stones ≡ [])
IsEffectBy side moves stones stones_set = (moves ≡ []) × (0 < length stones)
IsEffectBy side moves stones (one_play colour play) =
    (stones ≡ []) × IsPlayOn side play
    × ((raw : List ℕ) × (moves ≡ record { player = colour; raw = raw } ∷ []) × (move_value raw side ≡ Some play))

abbrev pub IsEffect : ℕ → Node → Effect → Type 0
IsEffect side node effect = IsEffectBy side (moves node) (stones node) effect

-- the step of a node has this effect, and the node has this comment
pub record IsStepOf (side : ℕ) (node : Node) (taken : LegalStep) : Type 0 where
  pub effect_is : IsEffect side node taken.effect
  pub comment_is : option_copied taken.comment ≡ first_value (codes "C") node.properties

-- a step is that of this legal node, in a game of this kind; `grid` is the board after it
pub record IsLegalStep (kind : GameKind) (grid : Grid) (step : LegalStep) (taken : LegalNode) : Type 0 where
  pub kind_is : kind ≡ board grid.side
  pub board_is : grid ≡ taken.after.colouring
  pub step_is : IsStepOf grid.side taken.node step
