-- The chains of refusals, link by link: what each test of a program shows, and what the end of a chain shows.
pub mod Judging
pub mod Reading
pub mod Writing
pub mod Many
pub mod Tests
pub mod Altering
pub mod Indexed
pub mod Feeding
