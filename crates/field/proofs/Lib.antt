pub mod TableRules
pub mod Abstract
pub mod Roots
pub mod Numbers
pub mod Questions
