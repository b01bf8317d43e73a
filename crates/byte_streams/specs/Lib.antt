-- What the public contracts cite. Words of ghost fields and members are in `inner`.
pub mod Streams
pub mod inner
