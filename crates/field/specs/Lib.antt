-- Fields of characteristic 2, and the fields GF(2^q) of the code with α, the class of x.
pub mod Field
pub mod Eval
pub mod Vandermonde
pub mod Roots
pub mod Bch
pub mod Flips
pub mod Irreducible
pub mod Extension
pub mod Fields
pub mod Powers
pub mod Elements
pub mod Odd
pub mod Inverse
pub mod Unmix
