-- What `sgf_lines_count` reports, and what that says of the text.
use Rattle.std.specs.Prelude.{◌≡◌, ℕ, ◌<◌, ◌≤◌, List, length}
use Rattle.sgf_outline.specs.Tree.{Games, game_count, node_count}
use Rattle.sgf_outline.specs.Spelling.{Spells}
use Rattle.sgf_tree.specs.Refusal.{IsFaultyAt}
use Rattle.tree_lines.specs.Lines.{lines}
use Rattle.sgf_lines.specs.Answer.{MAX_LENGTH}
use Rattle.sgf_lines_c.specs.declared.answer.CountAnswer.{CountAnswer}
use Rattle.sgf_lines_c.specs.declared.status.Status.{Status}
use Rattle.sgf_lines_c.specs.declared.status.Status.TheVariants.{Done, NotSgf, EndsEarly, TooLong, NoSuchLine, UnknownForm, RoomTooSmall, OutOfMemory}
use Rattle.sgf_lines_c.specs.Status.{number_of}

-- the answer that reports the counts of a collection
abbrev pub told_of : Games → CountAnswer
told_of games = record { games = game_count games; nodes = node_count games; lines = length (lines games); at = 0 }

-- an answer that has only the offset of a fault, and no counts
abbrev pub fault_told : ℕ → CountAnswer
fault_told at = record { games = 0; nodes = 0; lines = 0; at = at }

-- what each status says of the text and the answer
abbrev pub Says : List ℕ → CountAnswer → Status → Type 0
Says text answer Done = (length text ≤ MAX_LENGTH) × ((games : Games) × Spells games text × (answer ≡ told_of games))
Says text answer NotSgf = (length text ≤ MAX_LENGTH) × IsFaultyAt text answer.at × (answer.at < length text) × (answer ≡ fault_told answer.at)
Says text answer EndsEarly = (length text ≤ MAX_LENGTH) × IsFaultyAt text answer.at × (answer.at ≡ length text) × (answer ≡ fault_told answer.at)
Says text answer TooLong = (MAX_LENGTH < length text) × (answer ≡ fault_told 0)
Says text answer NoSuchLine = ⊥
Says text answer UnknownForm = ⊥
Says text answer RoomTooSmall = ⊥
Says text answer OutOfMemory = answer ≡ fault_told 0

-- The answer of `sgf_lines_count`, if it returned this number.
pub record IsCount (text : List ℕ) (answer : CountAnswer) (number : ℕ) : Type 0 where
  pub status : Status
  pub number_is : number ≡ number_of status
  pub says : Says text answer status
