-- The writer program: laws that its functions are proved by, and what the bytes that it does not read cannot alter.
pub mod Output
pub mod Sheet
pub mod Room
pub mod Size
pub mod Longest
pub mod Beyond
