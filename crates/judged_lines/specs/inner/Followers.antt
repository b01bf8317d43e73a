-- A follower's state, from its cursor and from what is known of the line before the cursor.
use Rattle.std.specs.Prelude.{◌≡◌, ◌<◌, ◌≤◌, ℕ, length, refl}
use Rattle.std.specs.Coded.{Coded, code_by, coded×, coded_ℕ}
use Rattle.sgf_outline.specs.Tree.{Games}
use Rattle.sgf_outline.specs.inner.TreeCode.{games_code}
use Rattle.tree_lines.specs.Cursor.{CursorState}
use Rattle.judged_lines.specs.Follower.{FollowerState, lines_judged}
use Rattle.judged_lines.specs.Plays.{all_judged_places}
use Rattle.judged_lines.specs.GoingOn.{Unheld, Held, Refused, Before, StandsBy, index_by}
use Rattle.tree_lines.specs.Following.{nodes_before}

abbrev pub state_by : Before → CursorState → ℕ → FollowerState
state_by before cursor streak = record { games = cursor.games; index = index_by before cursor.index; streak = streak }

-- the streak goes on if the line before the cursor is held
abbrev pub IsStreak : Before → ℕ → ℕ → Type 0
IsStreak Unheld index streak = streak ≡ 0
IsStreak Held index streak = (0 < streak) × (streak ≤ index)
IsStreak Refused index streak = streak ≡ 0

-- what a follower holds: what its keeper holds of the line before its cursor, and the plays of its streak
pub record Follows (before : Before) (cursor : CursorState) (holds : Type 0) (plays streak : ℕ) : Type 0 where
  pub stands : StandsBy before (nodes_before cursor) holds
  pub is_streak : IsStreak before cursor.index streak
  pub plays_are : plays ≡ length (all_judged_places (lines_judged (state_by before cursor streak)))

-- a follower's state is stored as its parts
abbrev pub follower_state_code : Coded FollowerState
follower_state_code =
    code_by (Games × (ℕ × ℕ)) (coded× games_code (coded× coded_ℕ coded_ℕ)) (λ follower. (follower.games, (follower.index, follower.streak)))
    (λ p. record { games = p.0; index = p.1.0; streak = p.1.1 }) (λ _. refl)
