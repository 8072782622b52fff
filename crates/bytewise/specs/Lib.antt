-- Tables and remainders with a byte for a digit.
pub mod Bytes
