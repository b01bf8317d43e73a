-- Where a cursor stands among the lines of a collection, what its calls return, and how they leave it.
use Rattle.std.specs.Prelude.{◌≡◌, ℕ, ◌+◌, Option, Some, None, option_map, slice_get, Result, Ok, Err}
use Rattle.sgf_outline.specs.Tree.{Games}
use Rattle.sgf_properties.specs.declared.fault.MemoryFault.{MemoryFault}
use Rattle.tree_lines.specs.Lines.{lines, place_of, HasNoLineAt}
use Rattle.tree_lines.specs.Paths.{Path, paths}
use Rattle.tree_lines.specs.declared.line.LineRef.{LineRef}
use Rattle.tree_lines.specs.declared.seek.SeekFault.{SeekFault}
use Rattle.tree_lines.specs.declared.seek.SeekFault.TheVariants.{NoSuchLine, Memory}

-- a collection, and the index of the cursor's next line, from 0: this many lines are before it
pub record CursorState : Type 0 where
  pub games : Games
  pub index : ℕ

-- the same cursor, one line later
abbrev pub advanced : CursorState → CursorState
advanced cursor = record { games = cursor.games; index = cursor.index + 1 }

-- what is shown of a line: its path and its place (the law `named` says that both are of one line)
pub record Shown : Type 0 where
  pub path : Path
  pub place : ℕ

abbrev pub shown : LineRef → Shown
shown line = record { path = record { game_number = line.game; numbers = line.path.now }; place = line.place }

-- `line` shows the line of a collection at this index
pub record IsLine (games : Games) (index : ℕ) (line : LineRef) : Type 0 where
  pub path : slice_get (paths games) index ≡ Some (shown line).path
  pub place : option_map place_of (slice_get (lines games) index) ≡ Some (shown line).place

-- the call returns the next line; None after the last one
abbrev pub GivesLine : CursorState → Option LineRef → Type 0
GivesLine cursor None = slice_get (lines cursor.games) cursor.index ≡ None
GivesLine cursor (Some line) = IsLine cursor.games cursor.index line

-- a returned line takes the cursor one line on; at the end and after a refusal the cursor is unchanged
abbrev pub LeavesCursor : CursorState → Result (Option LineRef) MemoryFault → CursorState → Type 0
LeavesCursor old (Ok (Some line)) new = new ≡ advanced old
LeavesCursor old (Ok None) new = new ≡ old
LeavesCursor old (Err fault) new = new ≡ old

-- the new state is directly after the line with this place
pub record IsAfterPlace (place : ℕ) (old new : CursorState) : Type 0 where
  pub index : ℕ
  pub line : option_map place_of (slice_get (lines old.games) index) ≡ Some place
  pub new_is : new ≡ record { games = old.games; index = index + 1 }

-- `NoSuchLine` names the place that was asked for, and comes only if no line has it
abbrev pub IsSeekFault : Games → ℕ → SeekFault → Type 0
IsSeekFault games place (NoSuchLine asked) = (asked ≡ place) × HasNoLineAt games place
IsSeekFault games place Memory = Unit {0}
