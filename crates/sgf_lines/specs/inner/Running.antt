-- What the parts of a run do.
use Rattle.std.specs.Prelude.{◌≡◌, ℕ, ◌<◌, ◌≤◌, ◌+◌, ◌-◌, ◌^◌, List, length, drop, take, Option, Some, Result, Ok, Err}
use Rattle.std.specs.Io.KnownBytes.{Appends, Consumes}
use Rattle.sgf_outline.specs.FileOrder.{PlacesRise}
use Rattle.sgf_outline.specs.Tree.{Games, node_count}
use Rattle.sgf_outline.specs.declared.limit.TheConstants.{MAX_LENGTH}
use Rattle.tree_lines.specs.Lines.{Line, lines, HasNoLineAt}
use Rattle.sgf_lines.specs.Page.{lines_asked}
use Rattle.sgf_lines.specs.Record.{output}
use Rattle.byte_streams.specs.Streams.{SourceState, SinkState}
use Rattle.tree_lines.specs.Cursor.{CursorState}
use Rattle.sgf_lines.specs.Answer.{IsWhole, IsCutShort}
use Rattle.tree_lines.specs.Sequences.{SequencesState}
use Rattle.sgf_lines.specs.RunPlays.{plays_of, ArePlaysFor}
use Rattle.sgf_lines.specs.declared.options.Form.{Form}
use Rattle.sgf_lines.specs.declared.fault.RunFault.{RunFault}
use Rattle.sgf_lines.specs.declared.fault.RunFault.TheVariants.{Read, TooLong, NoSuchLine, Write, Memory}

-- what the result of reading says of the bytes that the source gave, and of the text made from them
abbrev pub AnswersReading : {A : Type 0} → List ℕ → Option (List ℕ) → List ℕ → Result A RunFault → Type 0
AnswersReading given to_come text (Ok _) = IsWhole given to_come × (text ≡ given)
AnswersReading given to_come text (Err Read) = length given ≤ MAX_LENGTH
AnswersReading given to_come text (Err TooLong) = (MAX_LENGTH < length given) × (length given ≤ MAX_LENGTH + 65536)
AnswersReading given to_come text (Err (Memory count)) = (length given ≤ MAX_LENGTH) × (count ≡ 0)
AnswersReading given to_come text (Err _) = ⊥

pub record IsReading {A : Type 0} (source new_source : SourceState) (text : List ℕ) (result : Result A RunFault) : Type 0 where
  pub given : List ℕ
  pub gives : Appends source.given new_source.given given
  pub consumes : Consumes source.to_come new_source.to_come given
  pub answers : AnswersReading given new_source.to_come text result

-- what a source has given since `start` is the text
pub record HasRead (start now : SourceState) (text : List ℕ) : Type 0 where
  pub gives : Appends start.given now.given text
  pub consumes : Consumes start.to_come now.to_come text
  pub failures : now.failures ≡ start.failures

-- the same, and the source has no more to give
pub record HasReadAll (start now : SourceState) (text : List ℕ) : Type 0 where
  pub read : HasRead start now text
  pub whole : IsWhole text now.to_come

-- where a cursor stands before the page, or why there is no page
abbrev pub IsStart : Games → Option ℕ → Result SequencesState RunFault → Type 0
IsStart games after (Ok cursor) = lines_asked (lines games) after ≡ Some (drop cursor.at.index (lines games))
IsStart games after (Err (NoSuchLine place)) = (after ≡ Some place) × HasNoLineAt games place
IsStart games after (Err (Memory count)) = count ≡ 0
IsStart games after (Err _) = ⊥

-- Lines of these games may be written to the sink: places tell the lines apart, and the counts of nodes and of failures have room.
pub record MayWriteLines (games : Games) (sink : SinkState) : Type 0 where
  pub rise : PlacesRise games
  pub few : node_count games ≤ MAX_LENGTH
  pub countable : sink.failures < 2 ^ 64 - 1

-- what the result of writing lines says of the sink before and after, and of the number of nodes that were played
abbrev pub WritesLines : Form → List Line → SinkState → SinkState → ℕ → Result ℕ RunFault → Type 0
WritesLines form page sink new_sink plays (Ok count) =
    Appends sink.taken new_sink.taken (output form page) × (count ≡ length page) × (plays ≡ plays_of form page)
WritesLines form page sink new_sink plays (Err (Write count)) = IsCutShort form page count sink new_sink × ArePlaysFor form page count plays
WritesLines form page sink new_sink plays (Err (Memory count)) =
    (count ≤ length page) × Appends sink.taken new_sink.taken (output form (take count page)) × ArePlaysFor form page count plays
WritesLines form page sink new_sink plays (Err _) = ⊥

-- The same, where the plays went from `old` to `new`.
abbrev pub WritesPage : Form → List Line → SinkState → SinkState → ℕ → ℕ → Result ℕ RunFault → Type 0
WritesPage form page sink new_sink old new result = (plays : ℕ) × (new ≡ old + plays) × WritesLines form page sink new_sink plays result

-- at most `limit` of the lines after a cursor
abbrev pub page_after : CursorState → ℕ → List Line
page_after cursor limit = take limit (drop cursor.index (lines cursor.games))
