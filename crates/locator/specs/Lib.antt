-- Errors found by their syndromes: Berlekamp's and Massey's locator and its roots.
-- The definitions:
pub mod Series
pub mod Massey
pub mod Locate
-- The theorems:
pub mod Kept
pub mod Moments
pub mod Follow
