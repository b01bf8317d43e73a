-- The counts of a collection, and how they are written.
use Rattle.std.specs.Prelude.{◌≡◌, ℕ, ◌+◌, ◌<◌, ◌≤◌, List, ◌++◌, length, Option, Result, Ok, Err, codes, decimal}
use Rattle.std.specs.Io.KnownBytes.{Appends, Consumes}
use Rattle.sgf_outline.specs.Tree.{Games, game_count, node_count}
use Rattle.sgf_outline.specs.Spelling.{Spells}
use Rattle.sgf_tree.specs.Refusal.{IsFaultyAt}
use Rattle.sgf_outline.specs.declared.limit.TheConstants.{MAX_LENGTH}
use Rattle.tree_lines.specs.Lines.{lines}
use Rattle.byte_streams.specs.Streams.{SourceState, SinkState, HasDelivered}
use Rattle.sgf_lines.specs.Answer.{IsWhole, read_failures, write_failures}
use Rattle.sgf_lines.specs.declared.counting.Counts.{Counts}
use Rattle.sgf_lines.specs.declared.fault.RunFault.{RunFault}
use Rattle.sgf_lines.specs.declared.fault.RunFault.TheVariants.{Read, TooLong, NotSgf, Write, Memory}

-- how many games a collection has, how many nodes at every depth, and how many lines
abbrev pub counts_of : Games → Counts
counts_of games = record { games = game_count games; nodes = node_count games; lines = length (lines games) }

-- the three counts in one row
abbrev pub counts_row : Counts → List ℕ
counts_row counts = decimal counts.games ++ codes " " ++ decimal counts.nodes ++ codes " " ++ decimal counts.lines ++ codes "\n"

-- What each result says of the bytes that the source gave, and of those still to come.
abbrev pub AnswersCount : List ℕ → Option (List ℕ) → Result Counts RunFault → Type 0
AnswersCount given to_come (Ok counts) = IsWhole given to_come × ((games : Games) × Spells games given × (counts ≡ counts_of games))
AnswersCount given to_come (Err Read) = length given ≤ MAX_LENGTH
AnswersCount given to_come (Err TooLong) = (MAX_LENGTH < length given) × (length given ≤ MAX_LENGTH + 65536)
AnswersCount given to_come (Err (NotSgf at len)) = IsWhole given to_come × IsFaultyAt given at × (len ≡ length given)
AnswersCount given to_come (Err (Memory count)) = (length given ≤ MAX_LENGTH) × (count ≡ 0)
AnswersCount given to_come (Err _) = ⊥

-- The result of a count, with the source before and after it.
pub record IsCount (source new_source : SourceState) (result : Result Counts RunFault) : Type 0 where
  pub given : List ℕ
  pub gives : Appends source.given new_source.given given
  pub consumes : Consumes source.to_come new_source.to_come given
  pub answers : AnswersCount given new_source.to_come result
  pub source_failures : new_source.failures ≡ source.failures + read_failures result

-- what a sink took of a row: the whole row, which it also delivered; or, if the sink failed, a prefix of the row
abbrev pub AnswersRow : {A : Type 0} → List ℕ → SinkState → SinkState → Result A RunFault → Type 0
AnswersRow row sink new_sink (Ok _) = Appends sink.taken new_sink.taken row × HasDelivered new_sink
AnswersRow row sink new_sink (Err (Write count)) =
    (count ≡ 0) × ((front : List ℕ) × (rest : List ℕ) × (row ≡ front ++ rest) × Appends sink.taken new_sink.taken front)
AnswersRow row sink new_sink (Err _) = ⊥

-- The result of writing a row, with the sink before and after it.
pub record IsWriting {A : Type 0} (row : List ℕ) (sink new_sink : SinkState) (result : Result A RunFault) : Type 0 where
  pub answers : AnswersRow row sink new_sink result
  pub sink_failures : new_sink.failures ≡ sink.failures + write_failures result
