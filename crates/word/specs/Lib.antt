-- One word of a page.
pub mod WordBytes
pub mod Row
pub mod Quotient
pub mod Level
pub mod Short
