-- What the code of the first pass is proved by.
pub mod Alone
