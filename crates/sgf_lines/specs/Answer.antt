-- The result of a run: what it says of the bytes that the source gave and that the sink took.
use Rattle.std.specs.Prelude.{◌≡◌, ◌==◌, ℕ, ◌+◌, ◌<◌, ◌≤◌, ◌⊎◌, Bool, false, List, [], ◌++◌, length, take, slice_get, Option, Some, None, Result, Ok, Err}
use Rattle.std.specs.Result.{result_err}
use Rattle.std.specs.Io.KnownBytes.{Appends, Consumes, IsAtEnd}
use Rattle.sgf_outline.specs.Tree.{Games}
use Rattle.sgf_outline.specs.Spelling.{Spells}
use Rattle.sgf_tree.specs.Refusal.{IsFaultyAt}
pub use Rattle.sgf_outline.specs.declared.limit.TheConstants.{MAX_LENGTH}
use Rattle.sgf_tree.specs.declared.fault.ReadFault.{ReadFault}
use Rattle.sgf_tree.specs.declared.fault.ReadFault.TheVariants.{TooLong as TextTooLong, NotSgf as TextNotSgf, Memory as TextMemory}
use Rattle.tree_lines.specs.Lines.{Line, HasNoLineAt}
use Rattle.sgf_lines.specs.Page.{Options, page}
use Rattle.sgf_lines.specs.Record.{record_of, output}
use Rattle.byte_streams.specs.Streams.{SourceState, SinkState, HasDelivered}
use Rattle.sgf_lines.specs.declared.options.Form.{Form}
use Rattle.sgf_lines.specs.declared.fault.RunFault.{RunFault}
use Rattle.sgf_lines.specs.declared.fault.RunFault.TheVariants.{Read, TooLong, NotSgf, NoSuchLine, Write, Memory}

-- the source is at its end, and gave at most MAX_LENGTH bytes
pub record IsWhole (given : List ℕ) (to_come : Option (List ℕ)) : Type 0 where
  pub at_end : IsAtEnd to_come
  pub within : length given ≤ MAX_LENGTH

-- what the source gave spells a collection, and the lines `asked` are the page of this collection
pub record HasPage (options : Options) (given : List ℕ) (asked : List Line) : Type 0 where
  pub games : Games
  pub spelled : Spells games given
  pub page_is : page options games ≡ Some asked

-- what the source gave spells a collection, and no line of it has the place that is asked for
pub record HasNoLine (options : Options) (given : List ℕ) (place : ℕ) : Type 0 where
  pub games : Games
  pub spelled : Spells games given
  pub asked : options.after ≡ Some place
  pub none : HasNoLineAt games place

-- the source was read whole, and the lines `asked` are the page of what it gave
pub record IsGood (options : Options) (given : List ℕ) (to_come : Option (List ℕ)) (asked : List Line) : Type 0 where
  pub whole : IsWhole given to_come
  pub has_page : HasPage options given asked

-- a proper prefix of the record of a line; nothing if there is no line
abbrev pub IsPart : Form → Option Line → List ℕ → Type 0
IsPart form None part = part ≡ []
IsPart form (Some line) part = (rest : List ℕ) × (0 < length rest) × (record_of form line ≡ part ++ rest)

-- A sink took the whole records of the first `count` lines, and less than the whole record of the next line.
pub record IsCutShort (form : Form) (page : List Line) (count : ℕ) (sink new_sink : SinkState) : Type 0 where
  pub lines : count ≤ length page
  pub part : List ℕ
  pub takes : Appends sink.taken new_sink.taken (output form (take count page) ++ part)
  pub is_part : IsPart form (slice_get page count) part

-- What each result says of the bytes that the source gave, of those still to come, and of the sink before and after. A run asks
-- for at most 65,536 bytes at once. So if the source gives too much, at most that many bytes were read beyond the limit.
abbrev pub Answers : Options → List ℕ → Option (List ℕ) → SinkState → SinkState → Result ℕ RunFault → Type 0
Answers options given to_come sink new_sink (Ok count) =
    (page : List Line) × IsGood options given to_come page × Appends sink.taken new_sink.taken (output options.form page) × (count ≡ length page) × HasDelivered new_sink
Answers options given to_come sink new_sink (Err Read) = (length given ≤ MAX_LENGTH) × (new_sink ≡ sink)
Answers options given to_come sink new_sink (Err TooLong) = (MAX_LENGTH < length given) × (length given ≤ MAX_LENGTH + 65536) × (new_sink ≡ sink)
Answers options given to_come sink new_sink (Err (NotSgf at len)) = IsWhole given to_come × IsFaultyAt given at × (len ≡ length given) × (new_sink ≡ sink)
Answers options given to_come sink new_sink (Err (NoSuchLine place)) = IsWhole given to_come × HasNoLine options given place × (new_sink ≡ sink)
Answers options given to_come sink new_sink (Err (Write count)) = (page : List Line) × IsGood options given to_come page × IsCutShort options.form page count sink new_sink
Answers options given to_come sink new_sink (Err (Memory count)) =
    ((page : List Line) × IsGood options given to_come page × (count ≤ length page) × Appends sink.taken new_sink.taken (output options.form (take count page)))
    ⊎ ((length given ≤ MAX_LENGTH) × (count ≡ 0) × (new_sink ≡ sink))

-- the fault of a run whose source gave a text of `len` bytes that wasn't read
abbrev pub unread : ReadFault → ℕ → RunFault
unread TextTooLong len = TooLong
unread (TextNotSgf at) len = NotSgf at len
unread TextMemory len = Memory 0

-- the source gave the beginning of a text of the grammar, but not all of it
abbrev pub ends_too_early : RunFault → Bool
ends_too_early (NotSgf at len) = at == len
ends_too_early _ = false

-- how many failures of the source a fault stands for, and how many of the sink
abbrev pub reads_failed : Option RunFault → ℕ
reads_failed (Some Read) = 1
reads_failed _ = 0

abbrev pub writes_failed : Option RunFault → ℕ
writes_failed (Some (Write lines)) = 1
writes_failed _ = 0

-- the same for a result
abbrev pub read_failures : {A : Type 0} → Result A RunFault → ℕ
read_failures result = reads_failed (result_err result)

abbrev pub write_failures : {A : Type 0} → Result A RunFault → ℕ
write_failures result = writes_failed (result_err result)

-- The result of a run, with the source and the sink before and after it. A source or a sink that failed fails for good, and each
-- failure is counted. So if its count rises by one, the run asked nothing more of it after that failure.
pub record IsRun (options : Options) (source new_source : SourceState) (sink new_sink : SinkState) (result : Result ℕ RunFault) : Type 0 where
  pub given : List ℕ
  pub gives : Appends source.given new_source.given given
  pub consumes : Consumes source.to_come new_source.to_come given
  pub answers : Answers options given new_source.to_come sink new_sink result
  pub source_failures : new_source.failures ≡ source.failures + read_failures result
  pub sink_failures : new_sink.failures ≡ sink.failures + write_failures result
