-- How a judge in memory comes to its judgement: by a referee's states, which it takes back for the next line, and by the step of each node.
use Rattle.board_stones.specs.declared.setup_op.SetupOp.{SetupOp}
use Rattle.judged_lines.specs.declared.judging.step.Effect.{Effect}
use Rattle.judged_lines.specs.declared.judging.step.Effect.TheVariants.{Nothing, Stones as stones_set}
use Rattle.std.specs.Prelude.{◌≡◌, ◌≤◌, ℕ, Option, Some, None, List, [], ◌∷◌, length, nat_le, if◌then◌else◌, unwrap_or, Result, Ok, Err}
use Rattle.sgf_outline.specs.Tree.{Node}
use Rattle.go_board.specs.declared.reason.Reason.{Reason}
use Rattle.go_board.specs.declared.fault.TurnFault.{TurnFault}
use Rattle.go_board.specs.declared.fault.TurnFault.TheVariants.{Illegal as IllegalTurn, Memory}
use Rattle.board_stones.specs.Score.{score_of}
use Rattle.board_stones.specs.declared.stones.Colour.TheVariants.{Black, White}
use Rattle.go_board.specs.State.{State, States, followed_by}
use Rattle.judged_lines.specs.JudgedGames.{GameKind, not_go, bad_size, board}
use Rattle.judged_lines.specs.Step.{step}
use Rattle.judged_lines.specs.Walk.{LegalNode}
use Rattle.judged_lines.specs.Verdict.{NotGo, BadSize, Verdict, score_in}
use Rattle.judged_lines.specs.declared.judging.step.LegalStep.{LegalStep}
use Rattle.judged_lines.specs.Judgement.{Judgement, unjudged, judged, IsStepOf}

-- a referee's states after undoing until at most `depth` states are left before the present one
abbrev pub back_from : State → List State → ℕ → States
back_from present [] depth = record { present = present; earlier = [] }
back_from present (earlier ∷ others) depth =
    if nat_le (length (earlier ∷ others)) depth then record { present = present; earlier = earlier ∷ others }
    else back_from earlier others depth

abbrev pub back_to : States → ℕ → States
back_to states depth = back_from states.present states.earlier depth

-- the scores of Black and of White, if they are there, are those of the state's board
abbrev pub IsScoreOf : State → Option (ℕ × ℕ) → Type 0
IsScoreOf state None = Unit {0}
IsScoreOf state (Some score) = (score.0 ≡ score_of state.colouring Black) × (score.1 ≡ score_of state.colouring White)

-- the scores of Black and of White, if they are there, are those of the board after the first `depth` nodes
abbrev pub IsScoreAt : States → ℕ → Option (ℕ × ℕ) → Type 0
IsScoreAt states depth None = Unit {0}
IsScoreAt states depth (Some score) = (depth ≤ length states.earlier) × IsScoreOf (back_to states depth).present (Some score)

-- the same of a game's states, if the game is judged
abbrev pub IsScoreOn : Option States → ℕ → Option (ℕ × ℕ) → Type 0
IsScoreOn None depth score = Unit {0}
IsScoreOn (Some states) depth score = IsScoreAt states depth score

-- the judgement on a line, and how many nodes were played
pub record Judging : Type 0 where
  pub judgement : Judgement
  pub plays : ℕ

-- the side that a root gives its game, or the verdict of the game's lines
abbrev pub size_said : GameKind → Result ℕ Verdict
size_said not_go = Err NotGo
size_said bad_size = Err BadSize
size_said (board side) = Ok side

-- back to the first `count` nodes: an illegal node after them is forgotten
abbrev pub back : ℕ → Judgement → Judgement
back count (unjudged told) = unjudged told
back count (judged states ended) = if nat_le count (length states.earlier) then judged (back_to states count) None else judged states ended

abbrev pub verdict_in : Judgement → Verdict
verdict_in (unjudged told) = told
verdict_in (judged states (Some told)) = told
verdict_in (judged states None) = score_in states.present

-- the state that a step leads to; None if the step was refused
abbrev pub state_of : Result State Reason → Option State
state_of (Ok state) = Some state
state_of (Err reason) = None

-- the state that a node leads to; None if the node is illegal, or if the verdict is known already
abbrev pub state_after : Judgement → Node → Option State
state_after (unjudged told) node = None
state_after (judged states (Some told)) node = None
state_after (judged states None) node = state_of (step states.present node)

-- the node with that state, if there is one
abbrev pub legal_by : Option State → Node → List LegalNode
legal_by None node = []
legal_by (Some state) node = record { node = node; after = state } ∷ []

-- no node changes the judgement any more: the game isn't judged, or a node wasn't allowed
abbrev pub IsDecided : Judgement → Type 0
IsDecided (unjudged told) = Unit {0}
IsDecided (judged states (Some told)) = Unit {0}
IsDecided (judged states None) = ⊥

-- the verdict isn't known before the next node
abbrev pub IsUndecided : Judgement → Type 0
IsUndecided (unjudged told) = ⊥
IsUndecided (judged states (Some told)) = ⊥
IsUndecided (judged states None) = Unit {0}

-- the judgement that a judge in memory holds
abbrev pub judgement_of : Option Verdict → Option States → Judgement
judgement_of ended None = unjudged (unwrap_or ended NotGo)
judgement_of ended (Some states) = judged states ended

-- Either the referee takes the step. Or it refuses the step for the step's reason, or memory is refused: then the referee is
-- unchanged.
abbrev pub IsStepped : {A : Type 0} → Result State Reason → States → States → Result A TurnFault → Type 0
IsStepped step old new (Ok _) = (step ≡ Ok new.present) × (new ≡ followed_by old new.present)
IsStepped step old new (Err (IllegalTurn reason)) = (step ≡ Err reason) × (new ≡ old)
IsStepped step old new (Err Memory) = new ≡ old

-- the side of the board; 0 if the game isn't judged
abbrev pub side_in : Judgement → ℕ
side_in (unjudged told) = 0
side_in (judged states ended) = states.present.colouring.side

-- what is reported of the next node: its step, if the step was taken
abbrev pub IsStepFrom : Judgement → Node → Option LegalStep → Type 0
IsStepFrom judgement node None = state_after judgement node ≡ None
IsStepFrom judgement node (Some taken) =
    (state : State) × (state_after judgement node ≡ Some state) × IsStepOf (side_in judgement) node taken

-- the effect of a setup
abbrev pub setup_effect : List SetupOp → Effect
setup_effect [] = Nothing
setup_effect (op ∷ ops) = stones_set
