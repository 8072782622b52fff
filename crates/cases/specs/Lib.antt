-- Worked cases of the definitions, each a row of what a definition gives and what it should give.
-- Those of mended sub-words and mended pages stand in `cases_mended`, a crate beside this one: the two are proved at the same time.
pub mod Sheets
pub mod Starred
pub mod Own
-- What the theorems suppose holds of something, and what they do not say is false:
pub mod Inhabited
