-- Words of private contracts, views and invariants.
pub mod Views
pub mod Running
pub mod Pieces
pub mod Recording
pub mod Scripting
pub mod Cutting
