-- Syndromes as a program sums them: those of odd number by the places of a word's ones, the others by squares.
pub mod Places
pub mod Sum
pub mod Squares
