-- How a node comes that is taken off a sequence.
use Rattle.std.specs.Prelude.{◌≡◌, ℕ, List, [], ◌++◌}
use Rattle.sgf_outline.specs.Tree.{Property, Node, lone_property, told_property}
use Rattle.sgf_outline.specs.Lead.{IsLedBy}
use Rattle.sgf_outline.specs.declared.traversal.NextNode.{NextNode}
use Rattle.sgf_outline.specs.declared.traversal.NextNode.TheVariants.{Led, Empty, Unread}

-- The node was taken off, and the properties `left` are left of it. If it comes as `Led` or `Empty`, none is left. The names of a `Led`
-- node's properties after the first aren't among `names`.
abbrev pub IsTakenOff : List (List ℕ) → Node → List Property → NextNode → Type 0
IsTakenOff names node left (Led place letter value) =
    (node.place ≡ place) × IsLedBy names (lone_property letter value.now) node.properties × (left ≡ [])
IsTakenOff names node left (Empty place) = (node.place ≡ place) × (node.properties ≡ []) × (left ≡ [])
IsTakenOff names node left (Unread place front) = (node.place ≡ place) × (node.properties ≡ told_property front ++ left)
