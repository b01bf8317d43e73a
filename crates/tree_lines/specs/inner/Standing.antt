-- How a cursor's state follows from the node that it goes on from.
use Rattle.std.specs.Prelude.{◌≡◌, ℕ, ◌+◌, ◌≤◌, List, [], Some, refl}
use Rattle.std.specs.Coded.{Coded, code_by, coded×, coded_ℕ}
use Rattle.sgf_outline.specs.Tree.{Games, node_count}
use Rattle.sgf_outline.specs.inner.TreeCode.{games_code}
use Rattle.sgf_outline.specs.FileOrder.{IsLeaf}
use Rattle.tree_lines.specs.Cursor.{CursorState}
use Rattle.tree_lines.specs.inner.PathTo.{IsPathTo}

-- Where a cursor stands. It goes on from the node `next`. The node before `next`, if there is one, is a leaf, and `numbers` is the
-- path to this leaf.
pub record IsAfterLeaf (games : Games) (next : ℕ) (numbers : List ℕ) : Type 0 where
  pub within : next ≤ node_count games
  pub start : next ≡ 0 → numbers ≡ []
  pub leaf : (last : ℕ) → next ≡ last + 1 → IsLeaf games last
  pub path : (last : ℕ) → next ≡ last + 1 → IsPathTo games (Some last) numbers

-- a cursor's state is stored as the pair of its parts
abbrev pub cursor_state_code : Coded CursorState
cursor_state_code = code_by (Games × ℕ) (coded× games_code coded_ℕ) (λ cursor. (cursor.games, cursor.index)) (λ p. record { games = p.0; index = p.1 }) (λ _. refl)
