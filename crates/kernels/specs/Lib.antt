-- Bytes and 64-bit words as polynomials: what the kernels compute, and the laws by which they do.
pub mod Shift
pub mod Word
pub mod Value
pub mod Write
pub mod Raise
pub mod Add
pub mod Bytes
pub mod Remainder
pub mod Row
pub mod Store
pub mod Fold
pub mod Zero
pub mod Move
pub mod Degree
pub mod Insert
