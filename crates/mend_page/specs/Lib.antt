-- What is left where the rounds of a page mended through its nested words end.
pub mod Ends
