-- What the code of rounds is proved by.
pub mod Rows
pub mod Found
pub mod Whole
