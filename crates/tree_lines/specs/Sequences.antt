-- The sequences of the line before a cursor, by the indices where they end, and what the next line shares with it.
use Rattle.std.specs.Prelude.{◌≡◌, ℕ, ◌-◌, ◌<◌, ◌≤◌, List, [], ◌∷◌, length, get_or, take, drop}
use Rattle.sgf_outline.specs.Tree.{Node}
use Rattle.tree_lines.specs.Cursor.{CursorState}
use Rattle.tree_lines.specs.Following.{Continues, path_before}
use Rattle.tree_lines.specs.declared.sequence_cursor.Front.{Front}

-- a cursor, and for each sequence of the line before it how many nodes the line has up to the end of that sequence
pub record SequencesState : Type 0 where
  pub at : CursorState
  pub ends : List ℕ

-- how many nodes a line has in its first sequences
abbrev pub nodes_in : List ℕ → ℕ → ℕ
nodes_in ends sequences = get_or (0 ∷ ends) sequences 0

-- the ends rise from `start` to `count`
abbrev pub RiseTo : ℕ → List ℕ → ℕ → Type 0
RiseTo start [] count = start ≡ count
RiseTo start (end ∷ ends) count = (start < end) × RiseTo end ends count

-- elements in parts, which end at these indices; the first of the elements has the index `start`
abbrev pub parts_from : {A : Type 0} → ℕ → List ℕ → List A → List (List A)
parts_from start [] elements = []
parts_from start (end ∷ ends) elements = take (end - start) elements ∷ parts_from end ends (drop (end - start) elements)

-- the sequences of a line, by its nodes
abbrev pub sequences_of : List ℕ → List Node → List (List Node)
sequences_of ends nodes = parts_from 0 ends nodes

-- the new line begins with the first sequences of the old line, which have that many nodes
pub record SharesFront (old new : SequencesState) (front : Front) : Type 0 where
  pub nodes : Continues (path_before old.at) front.nodes (path_before new.at)
  pub within : front.sequences ≤ length old.ends
  pub ends : take front.sequences new.ends ≡ take front.sequences old.ends
  pub more : front.sequences < length new.ends
  pub count : front.nodes ≡ nodes_in old.ends front.sequences
