-- Words of private contracts, views and invariants.
pub mod Gathered
pub mod Judging
pub mod Keeping
pub mod Followers
