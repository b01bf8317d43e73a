-- A short text that is built without allocating memory.
use Rattle.sgfsplit_job.specs.declared.short_text.ShortText.{ShortText}
use Rattle.std.specs.Prelude.{ℕ, List, [], Option, Some, None, take, decimal}

-- a number in decimal digits; the empty text if there is no number
abbrev pub number_text : Option ℕ → List ℕ
number_text None = []
number_text (Some n) = decimal n

-- the text built so far
abbrev pub short_text : ShortText → List ℕ
short_text text = take text.length text.bytes
