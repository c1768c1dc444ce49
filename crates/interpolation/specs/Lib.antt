pub mod Staircase
pub mod Clearing
pub mod Faults
pub mod Through
pub mod Interpolation
