-- Some goals that the search proves have an answer all the same: where it is a term, a wrong body is refused at once, and not after a
-- long search. So the edits of must-fail/ cost less.
mod Common
pub mod EarlierLemmas
pub mod TurnLemmas
