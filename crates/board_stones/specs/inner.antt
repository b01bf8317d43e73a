-- Words of private contracts, views and invariants.
pub mod Regions
pub mod Flood
pub mod Groups
