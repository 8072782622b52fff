-- The declared register as the definitions' value, and the laws that its functions are proved by.
pub mod Register
pub mod Advance
