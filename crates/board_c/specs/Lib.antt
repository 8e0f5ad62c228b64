-- What the calls for C return, over the definitions of `register`, and what it promises. Assumes nothing.
pub mod Answers
pub mod Sizes
pub mod Promises
