-- What is gathered from a node's properties, one after the other.
use Rattle.std.specs.Prelude.{◌≡◌, ◌⊎◌, ◌<◌, ◌+◌, ℕ, Bool, if◌then◌else◌, Option, Some, None, List, [], ◌∷◌, ◌++◌, length, All, MatchBool, codes, bytes_eq, option_copied}
use Rattle.std.specs.List.{flat_map}
use Rattle.sgf_outline.specs.Tree.{Property, Node, lone_property, told_property}
use Rattle.sgf_outline.specs.declared.traversal.NextNode.{NextNode}
use Rattle.sgf_outline.specs.declared.traversal.NextNode.TheVariants.{Led, Empty as EmptyNode, Unread}
use Rattle.board_stones.specs.declared.stones.Colour.{Colour}
use Rattle.board_stones.specs.declared.stones.Colour.TheVariants.{Black, White}
use Rattle.board_stones.specs.declared.stones.Cell.TheVariants.{Black as BlackStone, White as WhiteStone, Empty}
use Rattle.board_stones.specs.declared.setup_op.SetupOp.{SetupOp}
use Rattle.board_points.specs.Point.{IsRectOn}
use Rattle.judged_lines.specs.declared.judging.contents.Moves.{Moves}
use Rattle.judged_lines.specs.declared.judging.contents.Moves.TheVariants.{Nothing, One, Several}
use Rattle.judged_lines.specs.declared.judging.contents.Setup.{Setup}
use Rattle.judged_lines.specs.declared.judging.contents.Setup.TheVariants.{Nothing as NoSetup, Meant, Faulty}
use Rattle.judged_lines.specs.declared.judging.contents.Kind.{Kind}
use Rattle.judged_lines.specs.declared.judging.contents.Kind.TheVariants.{Move as move_kind, Stones as stones_kind, Player as player_kind, Comment as comment_kind}
use Rattle.judged_lines.specs.declared.judging.contents.Contents.{Contents}
use Rattle.judged_lines.specs.NodeContents.{Move, Stones, moves_in, stones_in, players_in, first_value}
use Rattle.judged_lines.specs.NodeValues.{operations, last_player}

-- what the values of a property with this name are
abbrev pub kind_named : List ℕ → Option Kind
kind_named name =
    if bytes_eq name (codes "B") then Some (move_kind Black)
    else (if bytes_eq name (codes "W") then Some (move_kind White)
    else (if bytes_eq name (codes "AB") then Some (stones_kind BlackStone)
    else (if bytes_eq name (codes "AW") then Some (stones_kind WhiteStone)
    else (if bytes_eq name (codes "AE") then Some (stones_kind Empty)
    else (if bytes_eq name (codes "PL") then Some player_kind
    else (if bytes_eq name (codes "C") then Some comment_kind else None))))))

abbrev pub kind_of : Property → Option Kind
kind_of p = kind_named p.name

-- of these properties only the first, which is this one, holds anything
pub record HoldsAlone (first : Property) (properties : List Property) : Type 0 where
  pub rest : List Property
  pub all : properties ≡ first ∷ rest
  pub nothing : All (λ property. kind_of property ≡ None) rest

-- how a node comes of which these properties are left; if it is recognized, these don't matter
abbrev pub ComesAs : Node → List Property → NextNode → Type 0
ComesAs node left (Led place letter value) = (node.place ≡ place) × HoldsAlone (lone_property letter value.now) node.properties
ComesAs node left (EmptyNode place) = (node.place ≡ place) × (node.properties ≡ [])
ComesAs node left (Unread place front) = (node.place ≡ place) × (node.properties ≡ told_property front ++ left)

-- what is kept of the moves: none, the only one, or that there are several
abbrev pub AreMoves : Moves → List Move → Type 0
AreMoves Nothing moves = moves ≡ []
AreMoves (One colour raw) moves = moves ≡ record { player = colour; raw = raw.now } ∷ []
AreMoves Several moves = (first second : Move) × (more : List Move) × (moves ≡ first ∷ second ∷ more)

-- what stones and players set up on a board of that side, and the operations of the stones
abbrev pub IsSetup : ℕ → Setup → List SetupOp → List Stones → List (List ℕ) → Type 0
IsSetup side NoSetup ops stones players = (ops ≡ []) × (stones ≡ []) × (players ≡ [])
IsSetup side (Meant player) ops stones players =
    (operations stones side ≡ Some ops) × (last_player None players ≡ Some player) × (0 < length stones + length players)
IsSetup side Faulty ops stones players = (operations stones side ≡ None) ⊎ (last_player None players ≡ None)

-- what a setup becomes with the values of one more property: None means that one of them is faulty (stones that name no rectangle of
-- the board, or a PL that names no player); Some has the last player that they name, if there is one
abbrev pub setup_with : Setup → Option (Option Colour) → Setup
setup_with setup None = Faulty
setup_with NoSetup (Some last) = Meant last
setup_with (Meant before) (Some None) = Meant before
setup_with (Meant before) (Some (Some player)) = Meant (Some player)
setup_with Faulty (Some last) = Faulty

-- Either the operations of the stones were appended to `old`, or some of the stones name no rectangle of the board.
pub record AddsRectangles (side : ℕ) (stones : List Stones) (old new : List SetupOp) (good : Bool) : Type 0 where
  pub added : MatchBool good ((ops : List SetupOp) × (operations stones side ≡ Some ops) × (new ≡ old ++ ops)) (operations stones side ≡ None)
  pub on_board : All (λ op. IsRectOn side op.area) old → All (λ op. IsRectOn side op.area) new

-- what properties hold, on a board of that side, and the operations of their stones
pub record IsGathered (side : ℕ) (properties : List Property) (ops : List SetupOp) (contents : Contents) : Type 0 where
  pub moves_are : AreMoves contents.moves (flat_map moves_in properties)
  pub setup_is : IsSetup side contents.setup ops (flat_map stones_in properties) (flat_map players_in properties)
  pub comment_is : option_copied contents.comment ≡ first_value (codes "C") properties
  pub on_board : All (λ op. IsRectOn side op.area) ops
