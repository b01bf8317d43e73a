-- What the public contracts cite, directly or through other definitions. What only
-- private contracts, views and invariants cite is in `inner`.
pub mod CommandLine
pub mod PlainWords
pub mod Fault
pub mod Act
pub mod inner
