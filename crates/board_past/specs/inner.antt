-- Words of private contracts, views and invariants.
pub mod Print
pub mod Changes
pub mod Hash
pub mod Key
pub mod Table
pub mod Emptied
