-- The sizes of a sheet as answers, the distance step by step, the quote number by number.
pub mod Sized
pub mod Least
pub mod Quoting
