-- What the code of mending is proved by: the flips by syndromes, what the loops leave, and the call's answer.
pub mod Nearest
pub mod Left
pub mod Call
pub mod Settled
