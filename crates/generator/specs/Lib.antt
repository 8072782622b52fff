-- The generators of binary BCH codes over GF(2^q): the definitions, and laws on lists and products. The theorems stand in proofs/.
pub mod Distinct
pub mod Monic
pub mod Exponents
pub mod Points
pub mod Generator
pub mod Leaders
pub mod Factors
