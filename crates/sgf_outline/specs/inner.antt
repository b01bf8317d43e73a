-- Words of private contracts, views and invariants.
pub mod TreeCode
pub mod NodeText
pub mod Lead
pub mod Traversing
