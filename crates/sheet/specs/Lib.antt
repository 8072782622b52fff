-- Laws that the sheet's functions are proved by.
pub mod Rules
pub mod Clashes
pub mod Nesting
