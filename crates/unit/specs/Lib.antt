-- The page of one block alone, and of a single bit in the shortest sheet.
pub mod Unit
pub mod Short
