-- Words of private contracts, views and invariants.
pub mod Placing
pub mod Progress
pub mod PropertiesRead
pub mod GamesRead
pub mod NodesRead
pub mod Counting
