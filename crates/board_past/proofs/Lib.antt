-- Some goals that the search proves have an answer all the same: where it is a term, a wrong body is refused at once, and not after a
-- long search. So the edits of must-fail/ cost less.
mod Common
mod Examples
pub mod ListPastLemmas
pub mod RepeatLemmas
pub mod PowerLemmas
pub mod PrintLemmas
pub mod ByteLemmas
pub mod PrintPastLemmas
pub mod EmptiedLemmas
pub mod ChangesLemmas
pub mod ColouringsLemmas
pub mod NumberLemmas
pub mod TableLemmas
pub mod AtOnceLemmas
pub mod KeyLemmas
pub mod HashLemmas
