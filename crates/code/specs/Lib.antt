pub mod Meaning
pub mod Concatenation
pub mod ConcatenationLaws
pub mod Counting
pub mod Symbols
