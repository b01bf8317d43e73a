mod Common
pub mod KeyLemmas
pub mod TrieLemmas
pub mod InsertLemmas
