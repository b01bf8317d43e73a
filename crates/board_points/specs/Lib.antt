-- What the public contracts cite, directly or through other definitions. Words
-- of private contracts, views and invariants are in `inner`.
pub mod Point
pub mod Marking
pub mod Search
pub mod Values
pub mod Vertex
pub mod Rows
pub mod Linked
pub mod Glance
pub mod Halves
pub mod inner
