-- Tables of a generator and remainders by them: what they are, and the laws by which they come about.
pub mod Table
pub mod Step
pub mod Sum
pub mod Reduce
pub mod Build
pub mod Feed
pub mod Above
