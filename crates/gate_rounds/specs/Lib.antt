-- What the program's checks rest on, beside what the calls promise.
pub mod Answers
pub mod Apt
pub mod Sum
pub mod Scratched
pub mod Altered
pub mod Mended
pub mod Sheets
pub mod Singles
