-- Blocks of a page, one by one; many pages' list.
pub mod Taken
pub mod Exact
pub mod Listed
