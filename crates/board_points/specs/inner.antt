-- Words of private contracts.
pub mod Columns
pub mod Fill
pub mod Joined
pub mod Look
