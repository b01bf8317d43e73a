-- How a cursor goes on to the next line, how much of that line is held already, and how many nodes are played for it.
use Rattle.std.specs.Prelude.{◌≡◌, ◌⊎◌, ℕ, ◌+◌, ◌-◌, ◌<◌, ◌≤◌, Bool, true, false, List, length, Some, slice_get, Result, Ok, Err}
use Rattle.sgf_outline.specs.Tree.{Node}
use Rattle.tree_lines.specs.Lines.{Line, lines}
use Rattle.tree_lines.specs.Cursor.{CursorState, advanced}
use Rattle.tree_lines.specs.declared.sequence_cursor.Front.{Front}
pub use Rattle.judged_lines.specs.declared.over_lines.Before.{Before}
pub use Rattle.judged_lines.specs.declared.over_lines.Before.TheVariants.{Unheld, Held, Refused}
use Rattle.tree_lines.specs.Following.{Continues, path_before}
use Rattle.judged_lines.specs.Keeping.{fresh_plays}
use Rattle.tree_lines.specs.Sequences.{SequencesState, SharesFront, nodes_in}

-- the index of the next line; after a refusal, the line before the cursor is next again
abbrev pub index_by : Before → ℕ → ℕ
index_by Unheld index = index
index_by Held index = index
index_by Refused index = index - 1

-- a cursor whose next line is that one
abbrev pub next_by : Before → CursorState → CursorState
next_by before cursor = record { games = cursor.games; index = index_by before cursor.index }

-- what is known of the line before a cursor, which has these nodes; `holds` says what is held of it
abbrev pub StandsBy : Before → List Node → Type 0 → Type 0
StandsBy Unheld nodes holds = Unit {0}
StandsBy Held nodes holds = (0 < length nodes) × holds
StandsBy Refused nodes holds = 0 < length nodes

abbrev pub no_front : Front
no_front = record { sequences = 0; nodes = 0 }

-- a line with sequences that end so has this front, and more after it
pub record HasFront (ends : List ℕ) (front : Front) : Type 0 where
  pub more : front.sequences < length ends
  pub count : front.nodes ≡ nodes_in ends front.sequences

-- of a line nothing is held, or a front that it shares with the line before it, which is held
abbrev pub IsHeldOf : (SequencesState → Type 0) → SequencesState → Front → Type 0
IsHeldOf holds cursor front = (front ≡ no_front) ⊎ ((old : SequencesState) × holds old × (cursor.at ≡ advanced old.at) × SharesFront old cursor front)

-- so many nodes of the next line are held
abbrev pub AreHeld : Before → CursorState → ℕ → Type 0
AreHeld Unheld cursor held = held ≡ 0
AreHeld Held cursor held = Continues (path_before cursor) held (path_before (advanced cursor))
AreHeld Refused cursor held = held ≡ 0

-- the next line, and how many of its nodes are played for it
pub record HasPlays (counts : ℕ → ℕ) (before : Before) (cursor : CursorState) (count : ℕ) : Type 0 where
  pub line : Line
  pub found : slice_get (lines cursor.games) (index_by before cursor.index) ≡ Some line
  pub held : ℕ
  pub are_held : AreHeld before cursor held
  pub count_is : count ≡ counts (fresh_plays line.nodes held)

-- The plays went from `old` to `new` when the next line was to be kept. They rose by the plays for that line, if there is a next
-- line. If memory was refused, they rose by at most the plays for that line.
abbrev pub PlaysLine : {E : Type 0} → (ℕ → ℕ) → Before → CursorState → ℕ → ℕ → Result Bool E → Type 0
PlaysLine counts before cursor old new (Ok true) = (count : ℕ) × HasPlays counts before cursor count × (new ≡ old + count)
PlaysLine counts before cursor old new (Ok false) = new ≡ old
PlaysLine counts before cursor old new (Err fault) = (new ≡ old) ⊎ ((count : ℕ) × HasPlays counts before cursor count × (old ≤ new) × (new ≤ old + count))
