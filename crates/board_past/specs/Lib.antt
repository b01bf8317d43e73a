-- What the public contracts cite, directly or through other definitions. Words
-- of private contracts, views and invariants are in `inner`.
pub mod Past
pub mod inner
