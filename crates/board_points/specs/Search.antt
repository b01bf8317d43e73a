-- A search over the points of a grid.
use Rattle.std.specs.Prelude.{◌≡◌, ℕ, ◌+◌, ◌*◌, ◌≤◌, ◌⊎◌, List, [], All, Contains, IsTrue, length}
use Rattle.board_points.specs.Point.{Point, IsOn}
use Rattle.board_points.specs.Marking.{Marking, is_marked, marked_count, no_marks}

-- the points found, each marked, and those of them that wait for a closer look
pub record Searched : Type 0 where
  pub marking : Marking
  pub waiting : List Point

-- nothing was found yet
abbrev pub nothing_found : ℕ → Searched
nothing_found side = record { marking = no_marks side; waiting = [] }

-- What holds of every search: the points that wait are on the grid and marked, and no more wait than are marked.
pub record IsSound (search : Searched) : Type 0 where
  pub all : length search.marking.marks ≡ search.marking.side * search.marking.side
  pub few : length search.waiting ≤ marked_count search.marking
  pub waiting : All (λ point. IsOn search.marking.side point × IsTrue (is_marked search.marking point)) search.waiting

-- `new` is `old` with the points of a set found, too. Those that weren't found before wait.
pub record Finds (Some : Point → Type 0) (old new : Searched) : Type 0 where
  pub side : new.marking.side ≡ old.marking.side
  pub all : length new.marking.marks ≡ length old.marking.marks
  pub kept : (point : Point) → IsTrue (is_marked old.marking point) → IsTrue (is_marked new.marking point)
  pub found : (point : Point) → IsOn old.marking.side point → Some point → IsTrue (is_marked new.marking point)
  pub only : (point : Point) → IsOn old.marking.side point → IsTrue (is_marked new.marking point)
      → IsTrue (is_marked old.marking point) ⊎ (Some point × Contains new.waiting point)
  pub waiting : (point : Point) → Contains old.waiting point → Contains new.waiting point
  pub counted : marked_count new.marking + length old.waiting ≡ marked_count old.marking + length new.waiting
