-- Words of private contracts, views and invariants.
pub mod Earlier
