-- Sub-words from their blocks.
pub mod Product
pub mod Horner
pub mod Carried
pub mod Rule
pub mod Encoding
pub mod Loaded
pub mod Page
