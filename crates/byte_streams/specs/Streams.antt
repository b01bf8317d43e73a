-- What the source and the sink of a run show to contracts, and what their calls do.
use Rattle.std.specs.Prelude.{◌≡◌, ℕ, ◌+◌, ◌-◌, ◌<◌, ◌≤◌, List, [], length, take, Option, Some, None, Result, Ok, Err}
use Rattle.std.specs.Io.KnownBytes.{Keeps, Appends, Consumes, IsAtEnd}
use denote.Ref.{Bor}

-- A source: how often it has failed, the bytes that it has given so far, and those still to come. A
-- list is None if the source doesn't report it; contracts then say nothing about it.
pub record SourceState : Type 0 where
  pub failures : ℕ
  pub given : Option (List ℕ)
  pub to_come : Option (List ℕ)

-- a source that had never failed gave these bytes; it gives none only if no more are to come
pub record Gives (old new : SourceState) (bytes : List ℕ) : Type 0 where
  pub never_failed : old.failures ≡ 0
  pub failures : new.failures ≡ old.failures
  pub given : Appends old.given new.given bytes
  pub to_come : Consumes old.to_come new.to_come bytes
  pub none_at_end : bytes ≡ [] → IsAtEnd new.to_come

-- a source failed: it counted the failure, and gave nothing
pub record GivesNothing (old new : SourceState) : Type 0 where
  pub failures : new.failures ≡ old.failures + 1
  pub given : Keeps old.given new.given
  pub to_come : Keeps old.to_come new.to_come

-- the result of a source that was asked to fill a buffer: how many bytes it put at the buffer's front
abbrev pub IsGet : {E : Type 0} → SourceState → SourceState → List ℕ → Result ℕ E → Type 0
IsGet old new buffer (Ok n) = (n ≤ length buffer) × Gives old new (take n buffer)
IsGet old new buffer (Err _) = GivesNothing old new

-- how often such a result says that the source is at its end: once if it gave no bytes
abbrev pub ends_told : {E : Type 0} → Result ℕ E → ℕ
ends_told (Ok n) = 1 - n
ends_told (Err _) = 0

-- a source that had never failed gave these bytes at once, and no more are to come
pub record GivesAll (old new : SourceState) (bytes : List ℕ) : Type 0 where
  pub never_failed : old.failures ≡ 0
  pub failures : new.failures ≡ old.failures
  pub given : Appends old.given new.given bytes
  pub to_come : Consumes old.to_come new.to_come bytes
  pub at_end : IsAtEnd new.to_come

-- the result of a source that was asked for all bytes still to come, if they are `most` at most: these bytes, or nothing was given
abbrev pub GivesRest : ℕ → SourceState → SourceState → Option (Bor (List ℕ)) → Type 0
GivesRest most old new None = new ≡ old
GivesRest most old new (Some bytes) = (length bytes.now ≤ most) × GivesAll old new bytes.now

-- how often such a result says that the source is at its end
abbrev pub rests_told : Option (Bor (List ℕ)) → ℕ
rests_told None = 0
rests_told (Some _) = 1

-- A sink: how often it has failed, the bytes that it has taken so far, and the prefix of these
-- that it has delivered. Delivered bytes were passed on, and are no longer held back. A list is
-- None if the sink doesn't report it. Contracts say nothing of that list then.
pub record SinkState : Type 0 where
  pub failures : ℕ
  pub taken : Option (List ℕ)
  pub delivered : Option (List ℕ)

-- the bytes that a sink reports as delivered are a prefix of those that it reports as taken
abbrev pub DeliversFront : SinkState → Type 0
DeliversFront sink = (held : List ℕ) × Appends sink.delivered sink.taken held

-- a sink has delivered all that it has taken
abbrev pub HasDelivered : SinkState → Type 0
HasDelivered sink = Keeps sink.delivered sink.taken

-- what a sink has delivered stays delivered, and it may deliver more
abbrev pub DeliversOn : SinkState → SinkState → Type 0
DeliversOn old new = (more : List ℕ) × Appends old.delivered new.delivered more

-- a sink that had never failed took these bytes
pub record Takes (old new : SinkState) (bytes : List ℕ) : Type 0 where
  pub never_failed : old.failures ≡ 0
  pub failures : new.failures ≡ old.failures
  pub taken : Appends old.taken new.taken bytes
  pub grows : DeliversOn old new

-- a sink failed: it counted the failure, and took nothing; if it had failed before, it delivered nothing more either
pub record TakesNothing (old new : SinkState) : Type 0 where
  pub failures : new.failures ≡ old.failures + 1
  pub taken : Keeps old.taken new.taken
  pub grows : DeliversOn old new
  pub final : 0 < old.failures → new.delivered ≡ old.delivered

-- a sink that had never failed delivered all that it had taken, and took nothing
pub record Delivers (old new : SinkState) : Type 0 where
  pub never_failed : old.failures ≡ 0
  pub failures : new.failures ≡ old.failures
  pub taken : Keeps old.taken new.taken
  pub grows : DeliversOn old new
  pub delivered : HasDelivered new

-- the result of a sink that was given bytes: how many of them it took, from their front, at least one
abbrev pub IsPut : {E : Type 0} → SinkState → SinkState → List ℕ → Result ℕ E → Type 0
IsPut old new bytes (Ok n) = (0 < n) × (n ≤ length bytes) × Takes old new (take n bytes)
IsPut old new bytes (Err _) = TakesNothing old new

-- the result of a sink that was asked to flush
abbrev pub IsFlush : {A E : Type 0} → SinkState → SinkState → Result A E → Type 0
IsFlush old new (Ok _) = Delivers old new
IsFlush old new (Err _) = TakesNothing old new

-- the result of putting bytes until a sink has taken all of them, or has failed: then it took fewer, from their front
abbrev pub PutsAll : {A E : Type 0} → SinkState → SinkState → List ℕ → Result A E → Type 0
PutsAll old new bytes (Ok _) = Appends old.taken new.taken bytes × (new.failures ≡ old.failures)
PutsAll old new bytes (Err _) = (count : ℕ) × (count < length bytes) × Appends old.taken new.taken (take count bytes) × (new.failures ≡ old.failures + 1)
