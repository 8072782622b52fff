-- Pages and blocks by their parts: laws that the layout's functions are proved by, and that the code above reads and writes parts by.
pub mod Sizes
pub mod Runs
pub mod Parts
pub mod Tested
pub mod Replaced
pub mod SubWords
pub mod Written
