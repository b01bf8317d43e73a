-- A run that counts the nodes that it plays: what its result says of them, besides what it says of the bytes.
use Rattle.std.specs.Prelude.{◌≡◌, ℕ, ◌+◌, ◌≤◌, ◌⊎◌, if◌then◌else◌, List, length, take, Option, Result, Ok, Err}
use Rattle.tree_lines.specs.Lines.{Line}
use Rattle.judged_lines.specs.Plays.{all_judged_places}
use Rattle.byte_streams.specs.Streams.{SourceState, SinkState}
use Rattle.sgf_lines.specs.Answer.{IsGood, IsRun}
use Rattle.sgf_lines.specs.Form.{Form, entry_of}
use Rattle.sgf_lines.specs.declared.options.Options.{Options}
use Rattle.sgf_lines.specs.declared.fault.RunFault.{RunFault}
use Rattle.sgf_lines.specs.declared.fault.RunFault.TheVariants.{Read, TooLong, NotSgf, NoSuchLine, Write, Memory}

-- of `count` judged nodes, how many are played: none in a form that doesn't judge
abbrev pub plays_in : Form → ℕ → ℕ
plays_in form count = if (entry_of form).judges then count else 0

-- how many nodes are played for these lines: each node that is judged on at least one of them, once
abbrev pub plays_of : Form → List Line → ℕ
plays_of form lines = plays_in form (length (all_judged_places lines))

-- `plays` is at least the number for the first `count` lines, and at most the number for these and the next line
pub record ArePlaysFor (form : Form) (page : List Line) (count plays : ℕ) : Type 0 where
  pub at_least : plays_of form (take count page) ≤ plays
  pub at_most : plays ≤ plays_of form (take (count + 1) page)

-- What each result says of the number of nodes that were played, as `Answers` says it of the bytes.
abbrev pub AnswersPlays : Options → List ℕ → Option (List ℕ) → ℕ → Result ℕ RunFault → Type 0
AnswersPlays options given to_come plays (Ok count) = (page : List Line) × IsGood options given to_come page × (plays ≡ plays_of options.form page)
AnswersPlays options given to_come plays (Err Read) = plays ≡ 0
AnswersPlays options given to_come plays (Err TooLong) = plays ≡ 0
AnswersPlays options given to_come plays (Err (NotSgf at len)) = plays ≡ 0
AnswersPlays options given to_come plays (Err (NoSuchLine place)) = plays ≡ 0
AnswersPlays options given to_come plays (Err (Write count)) = (page : List Line) × IsGood options given to_come page × ArePlaysFor options.form page count plays
AnswersPlays options given to_come plays (Err (Memory count)) =
    ((page : List Line) × IsGood options given to_come page × ArePlaysFor options.form page count plays) ⊎ ((count ≡ 0) × (plays ≡ 0))

-- The result of a run in which the plays went from `old` to `new`.
pub record IsRunWithPlays (options : Options) (source new_source : SourceState) (sink new_sink : SinkState) (old new : ℕ) (result : Result ℕ RunFault) : Type 0 where
  pub run : IsRun options source new_source sink new_sink result
  pub plays : ℕ
  pub rises : new ≡ old + plays
  pub answers : AnswersPlays options run.given new_source.to_come plays result
