pub mod Bivariate
pub mod Terms
pub mod Grid
pub mod Values
pub mod Steps
