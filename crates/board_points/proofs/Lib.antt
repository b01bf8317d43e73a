mod Common
mod Examples
pub mod PointLemmas
pub mod MarkingLemmas
pub mod VertexLemmas
pub mod SearchLemmas
pub mod WordLemmas
pub mod ColumnLemmas
pub mod CarryLemmas
pub mod GrowLemmas
pub mod GiveLemmas
pub mod RowLemmas
pub mod CountLemmas
pub mod LinkedLemmas
pub mod GlanceLemmas
pub mod HalvesLemmas
