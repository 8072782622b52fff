-- A sheet's levels: the rows of their generators, what the loops that make them know, and levels made ready for remainders.
pub mod Levels
pub mod Ready
