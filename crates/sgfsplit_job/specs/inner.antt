-- What only private contracts, views and invariants cite.
pub mod Found
pub mod ShortText
