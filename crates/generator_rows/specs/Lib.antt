-- Rows of generators, and their degrees.
pub mod Rows
pub mod Degree
pub mod Within
