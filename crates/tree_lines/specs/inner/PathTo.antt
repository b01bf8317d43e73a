-- The path from the root of a game down to a node, and the leaves that a cursor seeks.
use Rattle.std.specs.Prelude.{◌≡◌, ◌≢◌, ℕ, ◌-◌, ◌<◌, ◌≤◌, List, [], ◌∷◌, ◌++◌, length, slice_get, Option, Some, None}
use Rattle.sgf_outline.specs.Tree.{Games, node_count}
use Rattle.sgf_outline.specs.FileOrder.{parent_at, IsLeaf}

-- the numbers of the nodes from the root to a node, each the parent of the next; above a root there are none
pub data IsPathTo (games : Games) : Option ℕ → List ℕ → Type 0 where
  top : IsPathTo games None []
  step : {number : ℕ} {parent : Option ℕ} {above numbers : List ℕ} → parent_at games number ≡ Some parent → IsPathTo games parent above
      → numbers ≡ above ++ number ∷ [] → IsPathTo games (Some number) numbers

-- no node from `from` on and before `to` is a leaf
abbrev pub HasNoLeaf : Games → ℕ → ℕ → Type 0
HasNoLeaf games from to = (number : ℕ) → from ≤ number → number < to → IsLeaf games number → ⊥

-- the node with this number is the first leaf from node `from` on
pub record IsNextLeaf (games : Games) (from number : ℕ) : Type 0 where
  pub from_there : from ≤ number
  pub within : number < node_count games
  pub is_leaf : IsLeaf games number
  pub first : HasNoLeaf games from number

-- The number of nodes of a path up to and including the last one that is `parent`. It is 0 if there is no parent.
abbrev pub IsCutBack : List ℕ → Option ℕ → ℕ → Type 0
IsCutBack path None kept = kept ≡ 0
IsCutBack path (Some parent) kept =
    (kept ≤ length path)
    × ((i : ℕ) → kept ≤ i → i < length path → slice_get path i ≢ Some parent)
    × (0 < kept → slice_get path (kept - 1) ≡ Some parent)
