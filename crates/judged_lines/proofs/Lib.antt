mod Common
pub mod ExamplesOfVerdicts
pub mod Walking
pub mod Lists
pub mod Steps
pub mod Gathered
pub mod Judgements
pub mod LegalNodes
pub mod Keeping
pub mod KeptScores
pub mod LineVerdicts
pub mod GoingOn
pub mod Touched
pub mod StreakPlays
pub mod JudgedLines
pub mod Followers
