-- What `sgf_lines_judge` reports, and what that says of the text and the place.
use Rattle.std.specs.Prelude.{◌≡◌, ℕ, ◌+◌, ◌<◌, ◌≤◌, false, List, length}
use Rattle.sgf_outline.specs.Tree.{Games}
use Rattle.sgf_outline.specs.Spelling.{Spells}
use Rattle.sgf_tree.specs.Refusal.{IsFaultyAt}
use Rattle.go_board.specs.declared.reason.Reason.{Reason}
use Rattle.go_board.specs.Reason.{rank_of}
use Rattle.tree_lines.specs.Lines.{HasNoLineAt}
use Rattle.judged_lines.specs.declared.verdict.Verdict.TheVariants.{Score, Illegal, NotGo, BadSize}
use Rattle.judged_lines.specs.declared.verdict.Verdict.{Verdict}
use Rattle.judged_lines.specs.Verdict.{IsVerdictOf}
pub use Rattle.sgf_lines.specs.Answer.{MAX_LENGTH}
use Rattle.sgf_lines_c.specs.declared.answer.JudgeAnswer.{JudgeAnswer}
use Rattle.sgf_lines_c.specs.declared.status.Status.{Status}
use Rattle.sgf_lines_c.specs.declared.status.Status.TheVariants.{Done, NotSgf, EndsEarly, TooLong, NoSuchLine, UnknownForm, RoomTooSmall, OutOfMemory}
use Rattle.sgf_lines_c.specs.Status.{number_of}

-- the number of a reason, from 1 in the order of checking
abbrev pub reason_number : Reason → ℕ
reason_number reason = rank_of reason + 1

-- an answer that has only `at`, and no verdict
abbrev pub no_verdict : ℕ → JudgeAnswer
no_verdict at = record { verdict = 0; reason = 0; black = 0; white = 0; turn = 0; place = 0; at = at; over = false }

-- the answer that reports a verdict
abbrev pub verdict_told : Verdict → JudgeAnswer
verdict_told (Score black white over) = record (no_verdict 0) { verdict = 1; black = black; white = white; over = over }
verdict_told (Illegal turn place reason) = record (no_verdict 0) { verdict = 2; turn = turn; place = place; reason = reason_number reason }
verdict_told NotGo = record (no_verdict 0) { verdict = 3 }
verdict_told BadSize = record (no_verdict 0) { verdict = 4 }

-- what each status says of the text, the place and the answer
abbrev pub Says : List ℕ → ℕ → JudgeAnswer → Status → Type 0
Says text place answer Done = (length text ≤ MAX_LENGTH) × ((games : Games) × Spells games text × ((told : Verdict) × IsVerdictOf games place told × (answer ≡ verdict_told told)))
Says text place answer NotSgf = (length text ≤ MAX_LENGTH) × IsFaultyAt text answer.at × (answer.at < length text) × (answer ≡ no_verdict answer.at)
Says text place answer EndsEarly = (length text ≤ MAX_LENGTH) × IsFaultyAt text answer.at × (answer.at ≡ length text) × (answer ≡ no_verdict answer.at)
Says text place answer TooLong = (MAX_LENGTH < length text) × (answer ≡ no_verdict 0)
Says text place answer NoSuchLine =
    (length text ≤ MAX_LENGTH) × ((games : Games) × Spells games text × HasNoLineAt games place) × (answer ≡ no_verdict place)
Says text place answer UnknownForm = ⊥
Says text place answer RoomTooSmall = ⊥
Says text place answer OutOfMemory = answer ≡ no_verdict 0

-- The answer of `sgf_lines_judge`, if it returned this number.
pub record IsJudged (text : List ℕ) (place : ℕ) (answer : JudgeAnswer) (number : ℕ) : Type 0 where
  pub status : Status
  pub number_is : number ≡ number_of status
  pub says : Says text place answer status
