-- How far a line is played: node after node, up to the first one whose step is refused.
use Rattle.std.specs.Prelude.{◌≡◌, ℕ, Option, Some, None, option_to_list, List, [], ◌∷◌, ◌++◌, map, fold, Result, Ok, Err}
use Rattle.sgf_outline.specs.Tree.{Node}
use Rattle.go_board.specs.declared.reason.Reason.{Reason}
use Rattle.go_board.specs.State.{State, starting}
use Rattle.judged_lines.specs.JudgedGames.{GameKind, not_go, bad_size, board}
use Rattle.judged_lines.specs.Step.{step}

-- a node whose step was taken, so it is legal, and the state after it
pub record LegalNode : Type 0 where
  pub node : Node
  pub after : State

-- the first node whose step is refused, and the reason
pub record IllegalNode : Type 0 where
  pub node : Node
  pub reason : Reason

-- the nodes whose steps were taken; the state after them; and the illegal node, if one was met
pub record Walk : Type 0 where
  pub taken : List LegalNode
  pub state : State
  pub illegal : Option IllegalNode

-- the walk before the first node, on a board of that side
abbrev pub before_root : ℕ → Walk
before_root side = record { taken = []; state = starting side; illegal = None }

-- if the step was taken, the walk goes on; if it was refused, the node is the illegal one
abbrev pub stepped : Walk → Node → Result State Reason → Walk
stepped walked node (Ok state) =
    record { taken = walked.taken ++ record { node = node; after = state } ∷ []; state = state; illegal = None }
stepped walked node (Err reason) = record walked { illegal = Some (record { node = node; reason = reason }) }

-- the walk one node later; after an illegal node the walk goes no further
abbrev pub next_by : Walk → Option IllegalNode → Node → Walk
next_by walked (Some met) node = walked
next_by walked None node = stepped walked node (step walked.state node)

abbrev pub next : Walk → Node → Walk
next walked node = next_by walked walked.illegal node

-- the walk along these nodes, from the state in which a game on a board of that side begins
abbrev pub walk : ℕ → List Node → Walk
walk side nodes = fold next (before_root side) nodes

-- the nodes of a game of this kind whose steps were taken; none if the game isn't judged
abbrev pub legal_on : GameKind → List Node → List LegalNode
legal_on not_go nodes = []
legal_on bad_size nodes = []
legal_on (board side) nodes = (walk side nodes).taken

-- the nodes that were judged: those whose steps were taken, and the illegal one
abbrev pub judged_by : Walk → List Node
judged_by walked =
    map (λ (taken : LegalNode). taken.node) walked.taken ++ map (λ (met : IllegalNode). met.node) (option_to_list walked.illegal)

-- the state after nodes whose steps are taken one after another, from the state `from` on
pub data IsAfter : State → List Node → State → Type 0 where
  no_node : {from : State} → IsAfter from [] from
  one_node : {from between last : State} {node : Node} {nodes : List Node} → step from node ≡ Ok between → IsAfter between nodes last
      → IsAfter from (node ∷ nodes) last

-- one of the nodes is the first that is illegal, in the state after the nodes before it
pub record HasIllegal (from : State) (nodes : List Node) : Type 0 where
  pub before : List Node
  pub illegal : Node
  pub after : List Node
  pub are : nodes ≡ before ++ illegal ∷ after
  pub state : State
  pub leads : IsAfter from before state
  pub reason : Reason
  pub refused : step state illegal ≡ Err reason
