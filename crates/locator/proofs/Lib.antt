-- That the locator finds the places of an error, and that there is room for them.
pub mod Found
pub mod Follow
