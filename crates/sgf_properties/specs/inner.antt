-- Words of private contracts, views and invariants.
pub mod PropertyCode
pub mod Iterating
pub mod Searches
pub mod Literals
