-- The theorems on exponents and generators.
pub mod Exponents
pub mod Generator
pub mod Leaders
pub mod Next
pub mod Factors
