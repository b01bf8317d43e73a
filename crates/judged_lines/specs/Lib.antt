-- What the public contracts cite, directly or through other definitions. Words
-- of private contracts, views and invariants are in `inner`.
pub mod NodeContents
pub mod NodeValues
pub mod JudgedGames
pub mod Step
pub mod Walk
pub mod Verdict
pub mod Judgement
pub mod Keeping
pub mod GoingOn
pub mod Follower
pub mod Plays
pub mod inner
