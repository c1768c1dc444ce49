pub mod Polynomials
pub mod Plain
pub mod DoublyExtended
pub mod ReedSolomonLaws
pub mod Digits
