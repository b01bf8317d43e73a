-- What the public contracts cite, directly or through other definitions. Words
-- of private contracts, views and invariants are in `inner`.
pub mod Bytes
pub mod Property
pub mod RawValue
pub mod Spelling
pub mod Front
pub mod Offsets
pub mod KeptLengths
pub mod Text
pub mod Number
pub mod Written
pub mod inner
