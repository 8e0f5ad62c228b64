-- What the code of the area says of its words, over the definitions of `register`. Assumes nothing.
pub mod Words
pub mod Phases
pub mod Places
pub mod Lent
