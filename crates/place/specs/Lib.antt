-- The place of a reader's record, over the definitions of `register`, and what it promises. Assumes nothing.
pub mod Places
pub mod Promises
