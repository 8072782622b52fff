-- What the constant tables hold, and the laws of powers that they rest on.
pub mod Powers
pub mod Tables
pub mod Generators
