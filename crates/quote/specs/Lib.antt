-- The sheet that the input gives.
pub mod Given
