-- The returns desk's program: laws that its functions are proved by, and what the bytes that it does not read cannot alter.
pub mod Mended
pub mod Beyond
