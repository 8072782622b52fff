-- Worked cases of mended sub-words and mended pages, each an equation of what a definition gives and what it should give.
-- Those of the other definitions stand in `cases`, a crate beside this one: the two are proved at the same time.
pub mod Calls
pub mod Own
-- What the theorems on mending suppose holds of something, and what they do not say is false:
pub mod Inhabited
