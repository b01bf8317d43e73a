-- What the contract of the example `done_in_memory` cites.
pub mod InMemory
