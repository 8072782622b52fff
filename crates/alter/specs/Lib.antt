-- A page with that of a single bit added.
pub mod Spread
pub mod Sum
