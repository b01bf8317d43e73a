-- Words of ghost fields and members.
pub mod HeldBack
