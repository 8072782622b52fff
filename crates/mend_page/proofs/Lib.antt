-- What the code of a page mended through its nested words is proved by.
pub mod Ends
pub mod Called
