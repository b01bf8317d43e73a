-- Some goals that the search proves have an answer all the same: where it is a term, a wrong body is refused at once, and not after a
-- long search. So the edits of must-fail/ cost less.
mod Common
mod Examples
pub mod GridLemmas
pub mod ReachingLemmas
pub mod RuleLemmas
pub mod GroupLemmas
pub mod SettledLemmas
pub mod FloodLemmas
pub mod RegionLemmas
pub mod BothAreasLemmas
pub mod LibertyLemmas
pub mod ScoreLemmas
pub mod SweepLemmas
pub mod RectangleLemmas
pub mod StoneRowsLemmas
pub mod GlanceLemmas
pub mod ClearedLemmas
