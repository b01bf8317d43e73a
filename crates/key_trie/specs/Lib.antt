-- What the public contracts cite.
pub mod Key
pub mod Trie
