-- What judge names, found word by word.
pub mod Search
pub mod Judged
