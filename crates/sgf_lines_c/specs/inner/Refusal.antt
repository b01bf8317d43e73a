-- What a fault says to a caller in C.
use Rattle.std.specs.Prelude.{if◌then◌else◌}
use Rattle.sgf_lines.specs.Answer.{ends_too_early}
use Rattle.sgf_lines.specs.declared.fault.RunFault.{RunFault}
use Rattle.sgf_lines.specs.declared.fault.RunFault.TheVariants.{TooLong as RunTooLong, NotSgf as RunNotSgf, NoSuchLine as RunNoSuchLine, Read, Write, Memory}
use Rattle.sgf_lines_c.specs.SplitAnswer.{told}
use Rattle.sgf_lines_c.specs.declared.answer.Answer.{Answer}
use Rattle.sgf_lines_c.specs.declared.status.Status.{Status}
use Rattle.sgf_lines_c.specs.declared.status.Status.TheVariants.{NotSgf, EndsEarly, TooLong, NoSuchLine, OutOfMemory}

-- The status of a fault, the number of lines that were written before it, and the offset or the place that it names. A number that it
-- doesn't name is 0.
abbrev pub refusal_of : RunFault → Status × Answer
refusal_of RunTooLong = (TooLong, told 0 0 0)
refusal_of (RunNotSgf at len) = (if ends_too_early (RunNotSgf at len) then EndsEarly else NotSgf, told 0 0 at)
refusal_of (RunNoSuchLine place) = (NoSuchLine, told 0 0 place)
refusal_of (Write lines) = (OutOfMemory, told lines 0 0)
refusal_of (Memory lines) = (OutOfMemory, told lines 0 0)
refusal_of Read = (OutOfMemory, told 0 0 0)
