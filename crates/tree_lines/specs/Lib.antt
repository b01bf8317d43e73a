-- What the public contracts cite, directly or through other definitions. Words
-- of private contracts, views and invariants are in `inner`.
pub mod Lines
pub mod Paths
pub mod Cursor
pub mod Lending
pub mod Following
pub mod Sequences
pub mod inner
