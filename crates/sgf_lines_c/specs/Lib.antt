-- What the contracts of the calls cite.
pub mod Status
pub mod Asked
pub mod SplitAnswer
pub mod CountAnswer
pub mod JudgeAnswer
pub mod inner
