pub mod CommandLine
pub mod PlainWords
