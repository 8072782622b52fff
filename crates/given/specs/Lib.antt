-- The head of a program's input, and its output: laws that their functions are proved by, and the programs over them.
pub mod Input
pub mod Output
