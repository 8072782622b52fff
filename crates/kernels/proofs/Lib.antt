-- Lemmas that more than one proof of the kernels cites.
pub mod Digits
pub mod Zeros
