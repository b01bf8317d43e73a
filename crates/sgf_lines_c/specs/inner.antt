-- What only private contracts cite.
pub mod Running
pub mod Refusal
