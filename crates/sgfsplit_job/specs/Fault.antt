-- The exit status of each fault, and its row on standard error.
use Rattle.std.specs.Prelude.{ℕ, ◌++◌, List, codes, decimal, if◌then◌else◌}
use Rattle.sgf_lines.specs.Answer.{MAX_LENGTH, ends_too_early}
use Rattle.sgf_lines.specs.declared.fault.RunFault.TheVariants.{Read, TooLong, NotSgf, NoSuchLine, Write, Memory}
use Rattle.sgfsplit_job.specs.declared.fault.Fault.{Fault}
use Rattle.sgfsplit_job.specs.declared.fault.Fault.TheVariants.{Open, NotUtf8, Run}

-- The exit status:
-- - 1: the input is refused, or no line has the place that was asked for.
-- - 2: a word isn't UTF-8.
-- - 3: FILE can't be opened, or a read, a write or the flush failed.
-- - 4: memory was refused.
abbrev pub status_of : Fault → ℕ
status_of Open = 3
status_of NotUtf8 = 2
status_of (Run Read) = 3
status_of (Run TooLong) = 1
status_of (Run (NotSgf at len)) = 1
status_of (Run (NoSuchLine place)) = 1
status_of (Run (Write lines)) = 3
status_of (Run (Memory lines)) = 4

abbrev pub message_of : Fault → List ℕ
message_of Open = codes "open failed"
message_of NotUtf8 = codes "a word isn't UTF-8"
message_of (Run Read) = codes "read failed"
message_of (Run TooLong) = codes "input is longer than " ++ decimal MAX_LENGTH ++ codes " bytes"
message_of (Run (NotSgf at len)) =
    codes "byte " ++ decimal at ++ (if ends_too_early (NotSgf at len) then codes ": input ends too early" else codes ": not SGF")
message_of (Run (NoSuchLine place)) = codes "no line ends at " ++ decimal place
message_of (Run (Write lines)) = codes "write failed"
message_of (Run (Memory lines)) = codes "out of memory"

-- the row on standard error, with its line feed
abbrev pub fault_row : Fault → List ℕ
fault_row fault = codes "sgfsplit: " ++ message_of fault ++ codes "\n"
