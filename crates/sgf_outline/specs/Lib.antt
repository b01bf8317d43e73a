-- What the public contracts cite, directly or through other definitions. Words
-- of private contracts, views and invariants are in `inner`.
pub mod Tree
pub mod Lead
pub mod NodesLeft
pub mod Traversal
pub mod Spelling
pub mod FileOrder
pub mod Written
pub mod Machine
pub mod Unclosed
pub mod OwnNodes
pub mod Listing
pub mod Outlining
pub mod Move
pub mod inner
