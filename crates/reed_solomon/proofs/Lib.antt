pub mod PolynomialSteps
