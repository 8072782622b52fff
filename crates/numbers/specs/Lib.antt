-- Lists of 16-bit numbers as bytes.
pub mod List
