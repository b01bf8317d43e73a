-- What the public contracts cite, directly or through other definitions. Words
-- of private contracts, views and invariants are in `inner`.
pub mod Colour
pub mod Grid
pub mod Reaching
pub mod Clearing
pub mod Move
pub mod Rectangle
pub mod Score
pub mod inner
