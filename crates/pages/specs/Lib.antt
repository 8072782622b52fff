-- Pages from their blocks, level by level.
pub mod Filling
