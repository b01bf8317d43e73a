-- What `sgf_lines_split` reports, what that says of the text, and what the room (the caller's buffer for the records) then holds.
use Rattle.std.specs.Prelude.{◌≡◌, ℕ, ◌<◌, ◌≤◌, ◌⊎◌, List, ◌++◌, length, drop, Option, Some, None}
use Rattle.sgf_tree.specs.Refusal.{IsFaultyAt}
use Rattle.tree_lines.specs.Lines.{Line}
use Rattle.sgf_lines.specs.Record.{output}
use Rattle.sgf_lines.specs.Answer.{MAX_LENGTH, HasPage, HasNoLine}
use Rattle.sgf_lines.specs.declared.options.Options.{Options}
use Rattle.sgf_lines_c.specs.declared.answer.Answer.{Answer}
use Rattle.sgf_lines_c.specs.declared.asked.Asked.{Asked}
use Rattle.sgf_lines_c.specs.declared.status.Status.{Status}
use Rattle.sgf_lines_c.specs.declared.status.Status.TheVariants.{Done, NotSgf, EndsEarly, TooLong, NoSuchLine, UnknownForm, RoomTooSmall, OutOfMemory}
use Rattle.sgf_lines_c.specs.Asked.{options_of}
use Rattle.sgf_lines_c.specs.Status.{number_of}

abbrev pub told : ℕ → ℕ → ℕ → Answer
told lines bytes at = record { lines = lines; bytes = bytes; at = at }

-- the answer that reports how many these lines are, and how many bytes their records have
abbrev pub told_of : Options → List Line → Answer
told_of options page = told (length page) (length (output options.form page)) 0

-- After the call the records of the page are at the front of the room, and the rest of the room is unchanged.
pub record IsDone (options : Options) (text old_room new_room : List ℕ) (answer : Answer) : Type 0 where
  pub page : List Line
  pub page_is : HasPage options text page
  pub short : length text ≤ MAX_LENGTH
  pub fits : length (output options.form page) ≤ length old_room
  pub room_is : new_room ≡ output options.form page ++ drop (length (output options.form page)) old_room
  pub told_is : answer ≡ told_of options page

-- the room has fewer bytes than the records of the page
pub record NeedsRoom (options : Options) (text room : List ℕ) (answer : Answer) : Type 0 where
  pub page : List Line
  pub page_is : HasPage options text page
  pub short : length text ≤ MAX_LENGTH
  pub too_small : length room < length (output options.form page)
  pub told_is : answer ≡ told_of options page

-- The page of the text has at least `count` lines. Or the count is 0, and nothing is said of the text.
abbrev pub IsPartOf : Options → List ℕ → ℕ → Type 0
IsPartOf options text count =
    ((length text ≤ MAX_LENGTH) × ((page : List Line) × HasPage options text page × (count ≤ length page))) ⊎ (count ≡ 0)

-- What each status says, given the options of a run.
abbrev pub Says : Options → List ℕ → List ℕ → List ℕ → Answer → Status → Type 0
Says options text old_room new_room answer Done = IsDone options text old_room new_room answer
Says options text old_room new_room answer NotSgf =
    (length text ≤ MAX_LENGTH) × IsFaultyAt text answer.at × (answer.at < length text) × (answer ≡ told 0 0 answer.at) × (new_room ≡ old_room)
Says options text old_room new_room answer EndsEarly =
    (length text ≤ MAX_LENGTH) × IsFaultyAt text answer.at × (answer.at ≡ length text) × (answer ≡ told 0 0 answer.at) × (new_room ≡ old_room)
Says options text old_room new_room answer TooLong = (MAX_LENGTH < length text) × (answer ≡ told 0 0 0) × (new_room ≡ old_room)
Says options text old_room new_room answer NoSuchLine =
    (length text ≤ MAX_LENGTH) × HasNoLine options text answer.at × (answer ≡ told 0 0 answer.at) × (new_room ≡ old_room)
Says options text old_room new_room answer UnknownForm = ⊥
Says options text old_room new_room answer RoomTooSmall = NeedsRoom options text old_room answer × (new_room ≡ old_room)
Says options text old_room new_room answer OutOfMemory =
    IsPartOf options text answer.lines × (answer ≡ told answer.lines 0 0) × (new_room ≡ old_room)

-- What each status says, given what a caller asked for. The status is `UnknownForm` exactly if the number names no form.
abbrev pub Answers : Option Options → List ℕ → List ℕ → List ℕ → Answer → Status → Type 0
Answers None text old_room new_room answer status = (status ≡ UnknownForm) × (answer ≡ told 0 0 0) × (new_room ≡ old_room)
Answers (Some options) text old_room new_room answer status = Says options text old_room new_room answer status

-- The answer of `sgf_lines_split`, if it returned this number.
pub record IsSplit (asked : Asked) (text old_room new_room : List ℕ) (answer : Answer) (number : ℕ) : Type 0 where
  pub status : Status
  pub number_is : number ≡ number_of status
  pub answers : Answers (options_of asked) text old_room new_room answer status
