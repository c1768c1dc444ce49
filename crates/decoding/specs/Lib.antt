pub mod Stages
pub mod Roots
pub mod Decoding
