-- Polynomials over GF(2) as numbers: bit k of a number is the coefficient of x^k.
pub mod Sums
pub mod Bits
pub mod Xor
pub mod Clmul
pub mod Division
pub mod Multiple
pub mod Digits
pub mod Coefficients
pub mod Burst
