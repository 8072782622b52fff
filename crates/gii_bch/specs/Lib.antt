-- The C calls: the answers' numbers, lists as bytes, sizes.
pub mod Number
pub mod Syndromes
pub mod All
pub mod Mending
pub mod Sizes
pub mod Quote
