-- One weight out of power sums, in numbers.
pub mod Nodes
pub mod Others
pub mod Sums
pub mod Weights
