-- Laws that nested words are proved by.
pub mod Sums
pub mod Turned
