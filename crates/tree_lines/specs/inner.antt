-- Words of private contracts, views and invariants.
pub mod PathTo
pub mod Standing
pub mod Parts
