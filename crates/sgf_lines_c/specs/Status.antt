-- The number that a caller in C gets for each status.
use Rattle.std.specs.Prelude.{ℕ}
use Rattle.sgf_lines_c.specs.declared.status.Status.{Status}
use Rattle.sgf_lines_c.specs.declared.status.Status.TheVariants.{Done, NotSgf, EndsEarly, TooLong, NoSuchLine, UnknownForm, RoomTooSmall, OutOfMemory}

abbrev pub number_of : Status → ℕ
number_of Done = 0
number_of NotSgf = 1
number_of EndsEarly = 2
number_of TooLong = 3
number_of NoSuchLine = 4
number_of UnknownForm = 5
number_of RoomTooSmall = 6
number_of OutOfMemory = 7
