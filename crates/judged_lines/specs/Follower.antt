-- Where a follower stands among the lines of a collection, what its calls return, and how they leave it.
use Rattle.std.specs.Prelude.{◌≡◌, ℕ, ◌+◌, ◌-◌, List, take, drop, Option, Some, None, option_map, slice_get, Result, Ok, Err}
use Rattle.sgf_outline.specs.Tree.{Games}
use Rattle.sgf_properties.specs.declared.fault.MemoryFault.{MemoryFault}
use Rattle.tree_lines.specs.Lines.{Line, lines}
use Rattle.judged_lines.specs.Verdict.{Verdict, verdict}

-- A collection; the index of the follower's next line, from 0; and the follower's streak: how many lines directly before that one it
-- has judged. The follower shows the last of these. After a refusal of memory a new streak begins.
pub record FollowerState : Type 0 where
  pub games : Games
  pub index : ℕ
  pub streak : ℕ

-- the lines of the streak
abbrev pub lines_judged : FollowerState → List Line
lines_judged follower = take follower.streak (drop (follower.index - follower.streak) (lines follower.games))

-- the verdict of the next line; None after the last one
abbrev pub GivesVerdict : FollowerState → Option Verdict → Type 0
GivesVerdict follower told = option_map verdict (slice_get (lines follower.games) follower.index) ≡ told

-- A returned verdict takes the follower one line on, and makes its streak longer by this line. At the end the follower is unchanged.
-- After a refusal the same line is next, and the streak has no line.
abbrev pub LeavesFollower : FollowerState → FollowerState → Result (Option Verdict) MemoryFault → Type 0
LeavesFollower old new (Ok (Some told)) = new ≡ record { games = old.games; index = old.index + 1; streak = old.streak + 1 }
LeavesFollower old new (Ok None) = new ≡ old
LeavesFollower old new (Err fault) = new ≡ record { games = old.games; index = old.index; streak = 0 }
