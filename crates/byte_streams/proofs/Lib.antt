pub mod SliceStreams
